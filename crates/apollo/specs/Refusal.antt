-- Document 01, "Refusals by number", with its trade words; from 16 on document 02, which has none.
use Rattle.std.specs.Prelude.{ℕ}

abbrev pub bad_setup : ℕ
bad_setup = 1  -- set-up

abbrev pub bad_replica : ℕ
bad_replica = 2  -- record

abbrev pub rounds_over : ℕ
rounds_over = 3  -- term over

abbrev pub out_too_short : ℕ
out_too_short = 4  -- short tray

abbrev pub entry_too_long : ℕ
entry_too_long = 5  -- long entry

abbrev pub bad_length : ℕ
bad_length = 6  -- cut

abbrev pub bad_digest : ℕ
bad_digest = 7  -- check

abbrev pub bad_form : ℕ
bad_form = 8  -- form

abbrev pub not_child : ℕ
not_child = 9  -- parted

abbrev pub stale : ℕ
stale = 10  -- stale

abbrev pub unattached : ℕ
unattached = 11  -- loose

abbrev pub reverts_committed : ℕ
reverts_committed = 12  -- undone

abbrev pub not_certified : ℕ
not_certified = 13  -- unshown

abbrev pub early : ℕ
early = 14  -- early

abbrev pub absent : ℕ
absent = 15  -- absent

abbrev pub not_a_set : ℕ
not_a_set = 16  -- blames of two rounds, or of one signer twice

abbrev pub bad_rotation : ℕ
bad_rotation = 17  -- open: not n seats, a card lacking, or a card twice

abbrev pub not_equivocation : ℕ
not_equivocation = 18  -- equivocation: equal digests, or two rounds
