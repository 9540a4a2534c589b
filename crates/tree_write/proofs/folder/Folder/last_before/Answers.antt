use Rattle.tree_write.proofs.Merge.{taken_quick}
use Rattle.tree_write.proofs.folder.Folder.last_before.Goals as goal

pub returns-in-Some : goal.returns-in-Some
returns-in-Some c = let is = c.in-Some.is in
    rw is (taken_quick _ _ _ _ _ _ _ _ _ c.args.self.walk c.args.self.span (rw is at c.requires) c.take.ensures)
