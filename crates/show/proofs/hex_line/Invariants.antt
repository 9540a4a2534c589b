-- `show::hex_line` meets its contract. The loop's invariant: the digits of the first i bytes, and then the line as it was. Assumes nothing.
use Rattle.std.proofs.Common.{◌≡◌, ◌*◌, ◌++◌, length, take, drop}
use Rattle.show.specs.Hex.{hex}
use Rattle.show.proofs.hex_line.Given as goal

abbrev pub invariant-loop-i : goal.invariant-loop-i
invariant-loop-i l = (length l.line ≡ 41) × (l.line ≡ hex (take l.i l.byte-items) ++ drop (l.i * 2) l.initial.line)
