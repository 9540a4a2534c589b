-- WHERE THERE IS ROOM FOR THE WHOLE TABLE the filling pass puts its bytes at the place, and answers where they end. Over the id's length and over all tables.
-- Assumes nothing.
use Prim.Native.Nat.{ℕ, zero, suc, ◌+◌, ◌≤◌}
use Rattle.std.specs.Prelude.{◌≡◌}
use Rattle.std.proofs.Math.Path.{sym}
use Rattle.std.proofs.Common.{◌∙◌, le-leb}
use mathlib.Core.List.{List, ◌++◌}
use native.Mathlib.Omega.{arith}
use Rattle.std.proofs.Math.ListN.{length, length-append}
use Rattle.laws.specs.Put.{put, put_none, put_put, length-put}
use Rattle.entry.specs.Paths.{Paths}
use Rattle.entry.specs.Record.{records_in}
use Rattle.write_entries.specs.Entries.{bytes_at, entries_bytes, table_bytes, put_one, put_entries, put_table}

pub one_fits : (at : ℕ) (out bytes : List ℕ) → at + length bytes ≤ length out → put_one at out bytes ≡ (at + length bytes, put out at bytes)
unfolding put_one
one_fits at out bytes room = rw (le-leb (at + length bytes) (length out) room)

module _ (id : ℕ) (rs : List ℕ) (ps : Paths) where
  entries_fit : (n i at : ℕ) (out : List ℕ) → at + length (entries_bytes id rs ps n i) ≤ length out
      → put_entries id rs ps n i at out ≡ (at + length (entries_bytes id rs ps n i), put out at (entries_bytes id rs ps n i))
  unfolding put_entries entries_bytes
  entries_fit zero i at out room =
      let a : at ≡ at + 0 = omega arith in
      λ j. (a j, sym (put_none out at) j)
  entries_fit (suc n) i at out room =
      let one : List ℕ = bytes_at id rs ps i in
      let rest : List ℕ = entries_bytes id rs ps n (i + 1) in
      let l : length (one ++ rest) ≡ length one + length rest = length-append one rest in
      let fits : at + length one ≤ length out = omega arith in
      let here : put_one at out one ≡ (at + length one, put out at one) = one_fits at out one fits in
      let room₁ : at + length one + length rest ≤ length (put out at one) = omega (arith, length-put out one at fits) in
      let k : at + length one + length rest ≡ at + length (one ++ rest) = omega arith in
      (λ j. put_entries id rs ps n (i + 1) (here j).0 (here j).1)
      ∙ entries_fit n (i + 1) (at + length one) (put out at one) room₁
      ∙ (λ j. (k j, put_put out one rest at (omega arith) j))

  pub table_fits : (at : ℕ) (out : List ℕ) → at + length (table_bytes id rs ps) ≤ length out → put_table id rs ps at out ≡ (at + length (table_bytes id rs ps), put out at (table_bytes id rs ps))
  table_fits at out room = entries_fit (records_in rs) 0 at out room
