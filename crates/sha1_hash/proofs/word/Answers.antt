-- `sha1_hash::word` meets its contract: before word 16 the window stays as it is, and from then on it takes the word that is made. Assumes nothing.
use Rattle.std.proofs.Common.{◌≡◌, ℕ, ◌%◌, List, slice_index, ◌∙◌, arith, get_or-set_same}
use Rattle.sha1_hash.specs.Sha1.{rotl, schedule}
use Rattle.sha1_hash.specs.Window.{Held}
use Rattle.sha1_hash.proofs.Window.{given_word, held_on, made_word, held_new}
use Rattle.sha1_hash.proofs.word.Goals as goal
use Rattle.sha1_hash.proofs.word.Goals.{then-t-ge-WINDOW, else-t-ge-WINDOW}

pub returns : goal.returns
unfolding rotl
returns c = let w = c.args.w.now in
    let t = c.args.t in
    elim c.if-t-ge-WINDOW.branch [
      | then-t-ge-WINDOW made ↦
          let x : (m : List ℕ) → Held m w t → made.rotate_left.result ≡ slice_index (schedule m) t =
          λ m held. made.rotate_left.ensures ∙ made_word m w t held made.if-t-ge-WINDOW.true c.requires in
          record {
            value = λ m held. rw made.w-is (get_or-set_same w (t % 16) made.rotate_left.result 0 (omega arith) ∙ x m held);
            window = λ m held. rw made.w-is (held_new m w t held made.rotate_left.result c.told-w made.if-t-ge-WINDOW.true (x m held));
          }
      | else-t-ge-WINDOW as_it_was ↦
          record {
            value = λ m held. rw as_it_was.w-is (given_word m w t held (omega arith));
            window = λ m held. rw as_it_was.w-is (held_on m w t held (omega arith));
          }
    ]
