use native.Mathlib.Nat.{pos_of_ne-zero}
use native.Mathlib.Omega.{arith}
use borrow.Author.Rules.{rules}
use Rattle.tree_write.proofs.Laws.{node_laws, kids_stop, kids_none, writing_start, writing_room, writing_more, written}
use Rattle.tree_write.proofs.Table.+put_node.Goals as goal

pub returns-then-depth-eq0 : goal.returns-then-depth-eq0
returns-then-depth-eq0 t c = search (node_laws, rules)

pub put_head-pos-requires : goal.put_head-pos-requires
put_head-pos-requires t c = search (node_laws, rules)

pub loop-taken-init : goal.loop-taken-init
loop-taken-init t c = writing_start _ _ _ _ _ _ _ _ _ c.if-depth-eq0.false c.requires c.put_head-pos.ensures.0 c.put_head-pos.ensures.1 (let all = c.nodes_in-taken-end.ensures in omega (arith, all))

pub returns-then-kid-eq0 : goal.returns-then-kid-eq0
returns-then-kid-eq0 t c = let more = c.loop-taken-test.true in
    written _ _ _ _ _ _ _ _ c.if-depth-eq0.false c.requires c.put_head-pos.ensures.0 c.put_head-pos.ensures.1 _ _ _ _ c.loop-taken.invariant (kids_stop _ _ _ _ _ _ (omega (arith, more)) c.next_kid-kid.ensures c.if-kid-eq0.true)

pub put_node-pos-requires : goal.put_node-pos-requires
put_node-pos-requires t c = let more = c.loop-taken-test.true in
    (omega (arith, pos_of_ne-zero c.if-depth-eq0.false, c.requires), writing_room _ _ _ _ _ _ _ _ _ _ c.loop-taken.invariant (omega (arith, more)) _ c.next_kid-kid.ensures c.if-kid-eq0.false)

pub loop-taken-preserved : goal.loop-taken-preserved
loop-taken-preserved t c = let more = c.loop-taken-test.true in
    writing_more _ _ _ _ _ _ _ _ _ _ c.loop-taken.invariant (omega (arith, more)) _ c.next_kid-kid.ensures c.if-kid-eq0.false _ (omega arith) _ _ c.put_node-pos.auto.out c.put_node-pos.ensures.0 c.put_node-pos.ensures.1

pub returns : goal.returns
returns t c = let all = c.loop-taken-test.false in
    written _ _ _ _ _ _ _ _ c.if-depth-eq0.false c.requires c.put_head-pos.ensures.0 c.put_head-pos.ensures.1 _ _ _ _ c.loop-taken.invariant (kids_none _ _ _ _ _ (omega (arith, all)))
