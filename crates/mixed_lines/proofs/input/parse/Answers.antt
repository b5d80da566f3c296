-- `input::parse` meets its contract: no byte of the line is a newline.
use Rattle.std.proofs.Common.{rules}
use Rattle.mixed_lines.proofs.input.parse.Goals as goal

pub returns : goal.returns
returns c = search rules
