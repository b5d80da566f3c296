-- The number that refuses a set-up, 0 if there is none.
use Rattle.std.specs.Prelude.{◌&&◌, not, cond, ℕ, eqb}
use Rattle.apollo.specs.declared.Setup.{Setup}
use Rattle.apollo.specs.Setup.{replicas, valid_rotation, valid_limits}
use Rattle.apollo.specs.Refusal.{bad_setup, bad_rotation}

-- 1 and 17; the set-up has the rotation, padded, and `size` is its length (`lent_is`: this is `setup_number` of what was lent)
unfoldable pub lent_number : Setup → (size : ℕ) → ℕ
lent_number s size =
    cond (not (valid_limits s)) bad_setup (cond (not (eqb size (replicas s) && valid_rotation s)) bad_rotation 0)
