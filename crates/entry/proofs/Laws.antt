-- What the pastes by which the code makes a record come to. Assumes nothing.
use mathlib.Core.Path.{◌≡◌, refl, sym, ap, ◌∙◌}
use mathlib.Core.List.{List, ◌++◌, append-nil}
use Prim.Native.Nat.{ℕ, ◌+◌, ◌-◌, ◌*◌, ◌/◌, ◌≤◌, ◌<◌}
use native.Mathlib.Omega.{arith}
use lib.ListN.{length, take, drop, replicate, length-append, drop_of_length-le}
use lib.Dec.{lit≤}
use lib.Seq.{paste, take_all}
use Rattle.laws.specs.Lists.{length_part}
use Rattle.laws.specs.Paste.{paste_then, paste_take}
use Rattle.wire.specs.BigEndian.{be_at, bytes_of, length-bytes}
use Rattle.format.specs.Format.{id_size, fields_size}
use Rattle.entry.specs.Mode.{keep_mode, mode_in}
use Rattle.entry.specs.Record.{front_of, rest_of, record_of, put_record}
use Rattle.entry.specs.Laws.{length_front, to_flags, to_start, to_end, length_rest, put_is_paste}

pub front_put : (d d₁ d₂ d₃ s : List ℕ) (at m k : ℕ) → m ≡ be_at 4 s (at + 24) → k ≡ keep_mode m → d₁ ≡ paste d 0 (drop at s) 24 → d₂ ≡ paste d₁ 24 (bytes_of 4 k) 4 → d₃ ≡ paste d₂ 28 (drop (at + 28) s) 32
    → at + fields_size ≤ length s → fields_size ≤ length d → d₃ ≡ paste d 0 (front_of id_size s at) fields_size
unfolding front_of
front_put d d₁ d₂ d₃ s at m k em ek e₁ e₂ e₃ hs hd =
    let x : List ℕ = take 24 (drop at s) in
    let y : List ℕ = bytes_of 4 (mode_in s at) in
    let z : List ℕ = take 32 (drop (at + 28) s) in
    let lx = length_part 24 at s (omega arith) in
    let ly = length-bytes 4 (mode_in s at) in
    let two = paste_then d d₁ d₂ 0 24 x y 24 4 28 (e₁ ∙ paste_take d 0 (drop at s) 24) (e₂ ∙ ap (λ (q : ℕ). paste d₁ 24 (bytes_of 4 q) 4) (ek ∙ ap keep_mode em)) refl refl lx (omega (arith, ly)) (omega arith) in
    paste_then d d₂ d₃ 0 28 (x ++ y) z 28 32 fields_size two (e₃ ∙ paste_take d₂ 28 (drop (at + 28) s) 32) refl refl (length-append x y ∙ omega (arith, lx, ly)) (omega (arith, length_part 32 (at + 28) s (omega arith))) (omega arith)

pub rest_put : (d d₁ d₂ d₃ d₄ d₅ : List ℕ) (flags start end : ℕ) → d₁ ≡ paste d fields_size (replicate 12 0) 12 → d₂ ≡ paste d₁ 72 (bytes_of 4 flags) 4 → d₃ ≡ paste d₂ 76 (bytes_of 8 start) 8 → d₄ ≡ paste d₃ 84 (bytes_of 8 end) 8
    → d₅ ≡ paste d₄ 92 (replicate 4 0) 4 → 96 ≤ length d → d₅ ≡ paste d fields_size (rest_of id_size flags start end) 36
unfolding rest_of
rest_put d d₁ d₂ d₃ d₄ d₅ flags start end e₁ e₂ e₃ e₄ e₅ h =
    let w : List ℕ = replicate 12 0 in
    let x : List ℕ = bytes_of 4 flags in
    let y : List ℕ = bytes_of 8 start in
    let z : List ℕ = bytes_of 8 end in
    let two = paste_then d d₁ d₂ fields_size 72 w x 12 4 16 e₁ e₂ refl refl refl (omega (arith, length-bytes 4 flags)) (omega arith) in
    let three = paste_then d d₂ d₃ fields_size 76 (w ++ x) y 16 8 24 two e₃ refl refl (to_flags id_size flags start end (lit≤ tt)) (omega (arith, length-bytes 8 start)) (omega arith) in
    let four = paste_then d d₃ d₄ fields_size 84 (w ++ x ++ y) z 24 8 32 three e₄ refl refl (to_start id_size flags start end (lit≤ tt)) (omega (arith, length-bytes 8 end)) (omega arith) in
    paste_then d d₄ d₅ fields_size 92 (w ++ x ++ y ++ z) (replicate 4 0) 32 4 36 four e₅ refl refl (to_end id_size flags start end (lit≤ tt)) (lit≤ tt) (omega arith)

pub record_put : (rs rs' w w₁ w₂ s : List ℕ) (at i flags start end : ℕ) → w₁ ≡ paste w 0 (front_of id_size s at) fields_size → w₂ ≡ paste w₁ fields_size (rest_of id_size flags start end) 36 → rs' ≡ paste rs (i * 96) (drop 0 w₂) 96
    → length w ≡ 96 → fields_size ≤ length s → at ≤ length s - fields_size → i < length rs / 96 → rs' ≡ put_record id_size s at flags start end rs i
unfolding record_of
record_put rs rs' w w₁ w₂ s at i flags start end e₁ e₂ e₃ hw hs' hat hi =
    let hs : at + fields_size ≤ length s = omega arith in
    let x : List ℕ = front_of id_size s at ++ rest_of id_size flags start end in
    let lx : length x ≡ 96 = length-append (front_of id_size s at) (rest_of id_size flags start end) ∙ omega (arith, length_front id_size s at hs, length_rest id_size flags start end (lit≤ tt)) in
    let made = paste_then w w₁ w₂ 0 fields_size (front_of id_size s at) (rest_of id_size flags start end) fields_size 36 96 e₁ e₂ refl refl (length_front id_size s at hs) (omega (arith, length_rest id_size flags start end (lit≤ tt))) (omega arith) in
    let whole : w₂ ≡ x = made ∙ (λ k. take_all 96 x (omega arith) k ++ drop_of_length-le w {i = 96} (omega arith) k) ∙ append-nil x in
    e₃ ∙ ap (λ (l : List ℕ). paste rs (i * 96) l 96) whole ∙ sym (put_is_paste id_size s at flags start end rs i hs (omega arith))
