use Rattle.std.proofs.Common.{◌≡◌, ℕ, List, length, slice_index, refl, ap, arith, rules}
use Rattle.show.specs.Hex.{hex}
use Rattle.show.proofs.Laws.{hex_more, hex_end}
use Rattle.show.proofs.hex_line.Goals as goal

pub loop-i-init : goal.loop-i-init
unfolding hex
loop-i-init c = (refl, refl)

pub loop-i-preserved : goal.loop-i-preserved
unfolding hex
loop-i-preserved c = let l = c.loop-i in
    let two = c.hex_byte.ensures in
    let n : length c.args.id ≡ 20 = search rules in (
      search rules,
      hex_more c.args.id l.line _ l.i _ _ c.loop-i-test.true n refl (ap (λ (d : List ℕ). slice_index d 0) two) (ap (λ (d : List ℕ). slice_index d 1) two) l.invariant.1,
    )

pub returns : goal.returns
returns c = let n : length c.args.id ≡ 20 = search rules in
    hex_end c.args.id c.loop-i.line c.loop-i.i n (omega arith) c.loop-i.invariant.1
