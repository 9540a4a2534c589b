use native.Mathlib.Omega.{arith}
use Rattle.write.proofs.Answers.{answers, end_bound, count_small, tree_small, tree_asked, offset_small, file_room}
use borrow.Author.Rules.{rules}
use Rattle.write.proofs.write_sized.Goals as goal
use Rattle.write.proofs.write_sized.Goals.{then-n-gt-MOST-via-then-n-gt-MOST, then-n-gt-MOST-via-else-n-gt-MOST+then-body-gt-MOST}

pub returns-then-n-gt-MOST : goal.returns-then-n-gt-MOST
returns-then-n-gt-MOST c =
    elim c.then-n-gt-MOST.branch
    [ then-n-gt-MOST-via-then-n-gt-MOST w ↦ search (answers, rules) | then-n-gt-MOST-via-else-n-gt-MOST+then-body-gt-MOST w ↦ search (answers, rules) ]

pub overflow_add-whole : goal.overflow_add-whole
overflow_add-whole c = omega (arith, end_bound _ _ c.end_size.ensures)

pub returns-then-out-whole : goal.returns-then-out-whole
returns-then-out-whole c = search (answers, rules)

pub overflow_cast-plan : goal.overflow_cast-plan
overflow_cast-plan c = omega (arith, count_small _ _ _ _ _ _ c.requires c.records_in-n.ensures c.if-n-gt-MOST.false)

pub fill-requires : goal.fill-requires
fill-requires c = let known = c.requires in
    let n = c.records_in-n.ensures in
    let writes = c.writes_tree-writes.ensures in
    let tree = c.size-tree_size.ensures in
    let body = c.body_size-body.ensures in
    let few = c.if-n-gt-MOST.false in
    let small = c.if-body-gt-MOST.false in
    let has = c.has_eoie-eoie.ensures in
    let last = c.end_size.ensures in
    let asked = c.then_some.ensures in
    record {
      tree_value = tree_asked _ _ _ _ _ _ _ _ _ _ _ _ n few writes known tree body small _ asked;
      paths_bound = offset_small _ _ _ _ _ _ _ _ _ _ _ _ n few writes known tree body small;
      eoie_in_bounds = file_room _ _ _ _ _ _ _ _ _ _ _ _ n few writes known tree body small _ has _ last _ asked _ c.if-out-whole.false;
    }

pub returns : goal.returns
returns c = search (answers, rules)

pub overflow_cast-tree_size : goal.overflow_cast-tree_size
overflow_cast-tree_size c = omega (arith, tree_small _ _ _ _ c.body_size-body.ensures c.if-body-gt-MOST.false)
