-- The digits that std writes of a number are those of `decimal`.
use Rattle.std.proofs.Common.{rules, ◌≡◌, ℕ, ◌^◌, ◌<◌, sym, arith}
use Rattle.std.proofs.lemmas.Fmt.{AppendsLastDigit, decimal_from_appends, length-decimal-le}
use Rattle.std.specs.Fmt.{decimal as std_decimal}
use Rattle.text.specs.Row.{digits_to, decimal}

appends : AppendsLastDigit digits_to
unfolding digits_to
appends = search rules

pub decimal_same : (n : ℕ) → n < 2 ^ 64 → std_decimal n ≡ decimal n
unfolding decimal
decimal_same n h = sym (decimal_from_appends digits_to appends 20 n h (length-decimal-le 20 n (omega arith) (omega arith) h))
