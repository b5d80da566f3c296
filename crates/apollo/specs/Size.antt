-- Document 01, "Frames" and "Refusals by number": sizes in bytes.
use Rattle.std.specs.Prelude.{ℕ}

abbrev pub frame_size : ℕ
frame_size = 512  -- a frame, and a slot

abbrev pub check_at : ℕ
check_at = 480  -- where a frame's check begins: it is of the bytes before it

abbrev pub entry_most : ℕ
entry_most = 400  -- the longest entry

abbrev pub out_least : ℕ
out_least = 1024  -- the shortest out buffer (tray)

abbrev pub pair_size : ℕ
pair_size = 1024  -- two frames
