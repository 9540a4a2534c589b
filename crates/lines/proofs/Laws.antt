-- Laws of a line's bytes, of the lines of a table and of a refusal's line, turned the way that the needs ask. Assumes nothing.
use mathlib.Core.Path.{◌≡◌, refl, sym, ap, ◌∙◌}
use mathlib.Core.Bool.{Bool, true, false}
use mathlib.Core.List.{List, [], ◌∷◌, ◌++◌}
use mathlib.Core.Logic.{⊎_elim}
use Rattle.std.specs.Bool.{then_some}
use Rattle.std.specs.Prelude.{Option, Some, None}
use Prim.Native.Nat.{ℕ, zero, suc, ◌+◌, ◌-◌, ◌*◌, ◌/◌, ◌%◌, ◌^◌, ◌≤◌, ◌<◌}
use native.Mathlib.Nat.{sub-zero, pow-suc}
use native.Mathlib.Omega.{arith}
use lib.ListN.{length, set, take, drop, length-append, length-replicate}
use lib.Seq.{paste, take_at}
use Rattle.format.specs.Format.{id_size}
use Rattle.laws.specs.Tests.{lt_or_ge}
use Rattle.laws.specs.Lists.{length_part}
use Rattle.laws.specs.Paste.{paste_take}
use Rattle.laws.specs.Put.{put, put_none, put_put, set-put, length-put}
use Rattle.wire.specs.Written.{digits_of, size_one, size_more}
use Rattle.show.specs.Hex.{hex, length-hex}
use Rattle.entry.specs.Paths.{Paths}
use Rattle.entry.specs.Record.{mode_at, id_at, stage_at, path_at}
use Rattle.entry.specs.Laws.{id_is, id_out}
use Rattle.lines.specs.Lines.{octal, head_of, line_of, line_at, lines_from, refused_word, tail_of, refused_text, tail_with, refused_with, refused_flag}
use Rattle.sums.specs.Cap.{largest, cap, cap_fits, cap_cap, cap_small}
use Rattle.lines.specs.Written.{copied, text_short, text_fits, text_written}

-- ---- a line

pub octal_six : (m a b c d e f g : ℕ) → a ≡ 48 + m / 32768 % 8 → b ≡ 48 + m / 4096 % 8 → c ≡ 48 + m / 512 % 8 → d ≡ 48 + m / 64 % 8 → e ≡ 48 + m / 8 % 8 → f ≡ 48 + m / 1 % 8
    → a ∷ b ∷ c ∷ d ∷ e ∷ f ∷ g ∷ [] ≡ octal 6 m ++ (g ∷ [])
unfolding octal
octal_six m a b c d e f g p q r s t u =
    let p₁ : a ≡ 48 + m / 8 / 8 / 8 / 8 / 8 % 8 = omega arith in
    let q₁ : b ≡ 48 + m / 8 / 8 / 8 / 8 % 8 = omega arith in
    let r₁ : c ≡ 48 + m / 8 / 8 / 8 % 8 = omega arith in
    let s₁ : d ≡ 48 + m / 8 / 8 % 8 = omega arith in
    let u₁ : f ≡ 48 + m % 8 = omega arith in
    cc

length-head : (m : ℕ) (id : List ℕ) (stage : ℕ) → length (head_of m id stage) ≡ 10 + length id * 2
unfolding head_of octal
length-head m id stage =
    length-append (octal 6 m ++ (32 ∷ []) ++ hex id) (32 ∷ (48 + stage) ∷ 9 ∷ [])
    ∙ omega (arith, length-append (octal 6 m ++ (32 ∷ [])) (hex id), length-hex id)

length_line : (m : ℕ) (id : List ℕ) (stage : ℕ) (path : List ℕ) → length (line_of m id stage path) ≡ 11 + length id * 2 + length path
unfolding line_of
length_line m id stage path =
    length-append (head_of m id stage ++ path) (10 ∷ []) ∙ omega (arith, length-append (head_of m id stage) path, length-head m id stage)

-- a copy right behind what was put
behind : (d d₁ d₂ xs s : List ℕ) (to to₁ n : ℕ) → d₁ ≡ put d to xs → d₂ ≡ paste d₁ to₁ (drop 0 s) n → to₁ ≡ to + length xs → n ≡ length s → to ≤ length d → d₂ ≡ put d to (xs ++ s)
behind d d₁ d₂ xs s to to₁ n e₁ e₂ et l h = copied d₁ d₂ s to₁ n e₂ l ∙ (λ k. put (e₁ k) (et k) s) ∙ put_put d xs s to h

pub head_put : (d d₁ d₂ d₃ digits hexs mark : List ℕ) (to m stage : ℕ) (id : List ℕ) → d₁ ≡ paste d to (drop 0 digits) 7 → d₂ ≡ paste d₁ (to + 7) (drop 0 hexs) 40 → d₃ ≡ paste d₂ (to + 47) (drop 0 mark) 3
    → digits ≡ octal 6 m ++ (32 ∷ []) → hexs ≡ hex id ++ (10 ∷ []) → mark ≡ 32 ∷ (48 + stage) ∷ 9 ∷ [] → length id ≡ id_size → to + 50 ≤ length d → d₃ ≡ put d to (head_of m id stage)
unfolding head_of octal
head_put d d₁ d₂ d₃ digits hexs mark to m stage id e₁ e₂ e₃ ed eh em li room =
    let a : List ℕ = octal 6 m ++ (32 ∷ []) in
    let lh : length (hex id) ≡ 40 = omega (arith, length-hex id) in
    let c : paste d₁ (to + 7) hexs 40 ≡ paste d₁ (to + 7) (hex id) 40 = paste_take d₁ (to + 7) hexs 40 ∙ ap (λ (l : List ℕ). paste d₁ (to + 7) l 40) (ap (λ (l : List ℕ). take 40 l) eh ∙ take_at (hex id) (10 ∷ []) 40 lh) in
    let i₁ : d₁ ≡ put d to a = copied d d₁ a to 7 (e₁ ∙ ap (λ (l : List ℕ). paste d to l 7) ed) refl in
    let i₂ : d₂ ≡ put d to (a ++ hex id) = behind d d₁ d₂ a (hex id) to (to + 7) 40 i₁ (e₂ ∙ c) refl (sym lh) (omega arith) in
    behind d d₂ d₃ (a ++ hex id) (32 ∷ (48 + stage) ∷ 9 ∷ []) to (to + 47) 3 i₂ (e₃ ∙ ap (λ (l : List ℕ). paste d₂ (to + 47) l 3) em) (omega (arith, length-append a (hex id))) refl (omega arith)

-- ---- the line of a record

length-id : (n : ℕ) (rs : List ℕ) (i : ℕ) → n ≤ 56 → length (id_at n rs i) ≡ n
length-id n rs i h =
    ⊎_elim (λ l. ap length (id_is n rs i l) ∙ length_part n (i * 96 + 40) rs (omega arith))
    (λ l. ap length (sym (id_out n rs i l)) ∙ length-replicate {A = ℕ} n 0)
    (lt_or_ge i (length rs / 96))

length_at : (rs : List ℕ) (ps : Paths) (i : ℕ) → length (line_at id_size rs ps i) ≡ 51 + length (path_at rs ps i)
unfolding line_at
length_at rs ps i =
    length_line (mode_at rs i) (id_at id_size rs i) (stage_at rs i) (path_at rs ps i) ∙ omega (arith, length-id id_size rs i (omega arith))

module _ (rs : List ℕ) (ps : Paths) (i : ℕ) (path : List ℕ) (ep : path ≡ path_at rs ps i) where
  pub line_length : length (line_at id_size rs ps i) ≡ 51 + length path
  line_length = length_at rs ps i ∙ ap (λ (l : List ℕ). 51 + length l) (sym ep)

  module _ (to m : ℕ) (room : to + length (line_at id_size rs ps i) ≤ m) where
    pub line_head : to + 50 ≤ m
    line_head = omega (arith, length_at rs ps i)

    pub line_room : to + 51 + length path ≤ m
    line_room = omega (arith, line_length)

    pub line_next : (r : ℕ) → r ≡ to + 50 + length path + 1 → r ≡ to + length (line_at id_size rs ps i)
    line_next r e = omega (arith, line_length)

  pub line_put : (d d₁ d₂ : List ℕ) (to m stage : ℕ) (id : List ℕ) → m ≡ mode_at rs i → id ≡ id_at id_size rs i → stage ≡ stage_at rs i → to + length (line_at id_size rs ps i) ≤ length d → d₁ ≡ put d to (head_of m id stage)
      → d₂ ≡ paste d₁ (to + 50) (drop 0 path) (length path) → set d₂ (to + 50 + length path) 10 ≡ put d to (line_at id_size rs ps i)
  unfolding line_at line_of
  line_put d d₁ d₂ to m stage id em ei es room e₁ e₂ =
      let h : List ℕ = head_of (mode_at rs i) (id_at id_size rs i) (stage_at rs i) in
      let p : List ℕ = path_at rs ps i in
      let lh : length h ≡ 50 = length-head (mode_at rs i) (id_at id_size rs i) (stage_at rs i) ∙ omega (arith, length-id id_size rs i (omega arith)) in
      let lp : length path ≡ length p = ap length ep in
      let i₁ : d₁ ≡ put d to h = e₁ ∙ (λ k. put d to (head_of (em k) (ei k) (es k))) in
      let i₂ : d₂ ≡ put d to (h ++ p) = behind d d₁ d₂ h p to (to + 50) (length path) i₁ (e₂ ∙ ap (λ (l : List ℕ). paste d₁ (to + 50) l (length path)) ep) (omega arith) lp (omega arith) in
      let hp : length (h ++ p) ≡ 50 + length path = length-append h p ∙ omega arith in
      let at-end : to + 50 + length path ≡ to + length (h ++ p) = omega arith in
      let fits : to + length (h ++ p) < length d = omega (arith, length_at rs ps i) in
      let ld : length (put d to (h ++ p)) ≡ length d = length-put d (h ++ p) to (omega arith) in
      (λ k. set (i₂ k) (at-end k) 10) ∙ set-put (put d to (h ++ p)) (to + length (h ++ p)) 10 (omega arith) ∙ put_put d (h ++ p) (10 ∷ []) to (omega arith)

-- ---- the lines of a table

lines_none : (rs : List ℕ) (ps : Paths) (n i : ℕ) → n ≤ i → lines_from id_size rs ps (n - i) i ≡ []
unfolding lines_from
lines_none rs ps n i h = let q : n - i ≡ 0 = omega arith in rw q

lines_more : (rs : List ℕ) (ps : Paths) (n i : ℕ) → i < n → lines_from id_size rs ps (n - i) i ≡ line_at id_size rs ps i ++ lines_from id_size rs ps (n - (i + 1)) (i + 1)
unfolding lines_from
lines_more rs ps n i h = let q : n - i ≡ suc (n - (i + 1)) = omega arith in rw q

-- a size that is capped is a number of 64 bits
pub size_small : (n s : ℕ) → s ≡ cap n → s ≤ largest
size_small n s e = omega (arith, cap_small n)

pub size_start : (rs : List ℕ) (ps : Paths) (n : ℕ) → cap (0 + length (lines_from id_size rs ps (n - 0) 0)) ≡ cap (length (lines_from id_size rs ps n 0))
size_start rs ps n =
    let q : 0 + length (lines_from id_size rs ps (n - 0) 0) ≡ length (lines_from id_size rs ps (n - 0) 0) = omega arith in
    ap cap q ∙ ap (λ (k : ℕ). cap (length (lines_from id_size rs ps k 0))) (sub-zero n)

module _ (rs : List ℕ) (ps : Paths) (n i size r : ℕ) (inv : cap (size + length (lines_from id_size rs ps (n - i) i)) ≡ r) where
  pub size_end : size ≤ 18446744073709551615 → n ≤ i → size ≡ r
  size_end s h =
      let z : size + length (lines_from id_size rs ps (n - i) i) ≡ size = omega (arith, ap length (lines_none rs ps n i h)) in
      sym (cap_fits size s) ∙ ap cap (sym z) ∙ inv

  pub size_turn : i < n → (path : List ℕ) → path ≡ path_at rs ps i → (size₁ : ℕ) → size₁ ≡ cap (size + (51 + length path)) → cap (size₁ + length (lines_from id_size rs ps (n - (i + 1)) (i + 1))) ≡ r
  size_turn h path ep size₁ e =
      let left : List ℕ = lines_from id_size rs ps (n - (i + 1)) (i + 1) in
      let z : size + (51 + length path) + length left ≡ size + length (lines_from id_size rs ps (n - i) i) =
      omega (arith, ap length (lines_more rs ps n i h), length-append (line_at id_size rs ps i) left, line_length rs ps i path ep) in
      ap (λ (k : ℕ). cap (k + length left)) e ∙ cap_cap (size + (51 + length path)) (length left) ∙ ap cap z ∙ inv

-- ---- the fill

pub fill_start : (rs : List ℕ) (ps : Paths) (d : List ℕ) (n : ℕ) → put d 0 (lines_from id_size rs ps (n - 0) 0) ≡ put d 0 (lines_from id_size rs ps n 0)
fill_start rs ps d n = rw sub-zero

pub fill_fits : (rs : List ℕ) (ps : Paths) (n m : ℕ) → length (lines_from id_size rs ps n 0) ≤ m → 0 + length (lines_from id_size rs ps (n - 0) 0) ≤ m
fill_fits rs ps n m h = rw sub-zero (omega arith)

module _ (rs : List ℕ) (ps : Paths) (n i to : ℕ) where
  both : i < n → length (lines_from id_size rs ps (n - i) i) ≡ length (line_at id_size rs ps i) + length (lines_from id_size rs ps (n - (i + 1)) (i + 1))
  both h = ap length (lines_more rs ps n i h) ∙ length-append (line_at id_size rs ps i) (lines_from id_size rs ps (n - (i + 1)) (i + 1))

  pub fill_room : (m : ℕ) → i < n → to + length (lines_from id_size rs ps (n - i) i) ≤ m → to + length (line_at id_size rs ps i) ≤ m
  fill_room m h r = omega (arith, both h)

  pub fill_left : (m m₁ to₁ : ℕ) → i < n → to + length (lines_from id_size rs ps (n - i) i) ≤ m → to₁ ≡ to + length (line_at id_size rs ps i) → m₁ ≡ m → to₁ + length (lines_from id_size rs ps (n - (i + 1)) (i + 1)) ≤ m₁
  fill_left m m₁ to₁ h r e em = omega (arith, both h)

  pub fill_end : (d r : List ℕ) → put d to (lines_from id_size rs ps (n - i) i) ≡ r → n ≤ i → d ≡ r
  fill_end d r inv h = sym (put_none d to) ∙ (rw (lines_none rs ps n i h) at inv)

  pub fill_more : (d r d₁ : List ℕ) (to₁ : ℕ) → put d to (lines_from id_size rs ps (n - i) i) ≡ r → i < n → to + length (lines_from id_size rs ps (n - i) i) ≤ length d → d₁ ≡ put d to (line_at id_size rs ps i) → to₁ ≡ to + length (line_at id_size rs ps i)
      → put d₁ to₁ (lines_from id_size rs ps (n - (i + 1)) (i + 1)) ≡ r
  fill_more d r d₁ to₁ inv h room e q =
      rw (e, q) (put_put d (line_at id_size rs ps i) (lines_from id_size rs ps (n - (i + 1)) (i + 1)) to (omega arith) ∙ (rw (lines_more rs ps n i h) at inv))

-- ---- the line of a refusal

-- a number below 10 ^ (k + 1) has at most k + 1 digits
digits_below : (k x : ℕ) → x < 10 ^ suc k → length (digits_of 10 x) ≤ suc k
digits_below zero x h = let l : x < 10 = h in omega (arith, size_one x l)
digits_below (suc k) x h =
    let l : x < 10 ^ suc k * 10 = rw (← pow-suc 10 (suc k)) h in
    let small : x / 10 < 10 ^ suc k = omega arith in
    ⊎_elim (λ g. omega (arith, size_one x g)) (λ g. omega (arith, size_more x g, digits_below k (x / 10) small)) (lt_or_ge x 10)

length_refused : (number : ℕ) (o : Option ℕ) → length (refused_with number o) ≡ 8 + length (digits_of 10 number) + length (tail_with o)
unfolding refused_text
length_refused number o = length-append (refused_word ++ digits_of 10 number) (tail_with o) ∙ omega (arith, length-append refused_word (digits_of 10 number))

tail_some : (o : Option ℕ) (value : ℕ) → o ≡ Some value → tail_with o ≡ (32 ∷ []) ++ digits_of 10 value ++ (10 ∷ [])
unfolding tail_of
tail_some o value e = ap (λ (v : Option ℕ). tail_with v) e

tail_none : (o : Option ℕ) → o ≡ None → tail_with o ≡ 10 ∷ []
unfolding tail_of
tail_none o e = ap (λ (v : Option ℕ). tail_with v) e

length_some : (o : Option ℕ) (value : ℕ) → o ≡ Some value → length (tail_with o) ≡ 2 + length (digits_of 10 value)
length_some o value e =
    ap length (tail_some o value e) ∙ length-append ((32 ∷ []) ++ digits_of 10 value) (10 ∷ []) ∙ omega (arith, length-append (32 ∷ []) (digits_of 10 value))

length_none : (o : Option ℕ) → o ≡ None → length (tail_with o) ≡ 1
length_none o e = ap length (tail_none o e)

-- a number of 64 bits has at most 20 digits
digits_short : (x : ℕ) → x ≤ 18446744073709551615 → length (digits_of 10 x) ≤ 20
digits_short x h = digits_below 19 x (omega arith)

pub digits_fit : (x digits : ℕ) → digits ≡ length (digits_of 10 x) → x ≤ 18446744073709551615 → digits ≤ 20
digits_fit x digits e h = omega (arith, digits_short x h)

module _ (number digits : ℕ) (o : Option ℕ) (ed : digits ≡ length (digits_of 10 number)) where
  pub refused_some : (value more : ℕ) → o ≡ Some value → more ≡ length (digits_of 10 value) → 8 + digits + 1 + 1 + more ≡ length (refused_with number o)
  refused_some value more e em = omega (arith, length_refused number o, length_some o value e)

  pub refused_none : o ≡ None → 8 + digits + 1 ≡ length (refused_with number o)
  refused_none e = omega (arith, length_refused number o, length_none o e)

-- the same where a flag says whether the value is carried
module _ (number value digits more : ℕ) (carries : Bool) (ed : digits ≡ length (digits_of 10 number)) where
  pub refused_carried : carries ≡ true → more ≡ length (digits_of 10 value) → 10 + digits + more ≡ length (refused_text number carries value)
  refused_carried c em = omega (arith, refused_some number digits (then_some carries value) ed value more (ap (λ (t : Bool). then_some t value) c) em, ap length (refused_flag number value carries))

  pub refused_alone : carries ≡ false → 9 + digits ≡ length (refused_text number carries value)
  refused_alone c = omega (arith, refused_none number digits (then_some carries value) ed (ap (λ (t : Bool). then_some t value) c), ap length (refused_flag number value carries))

module _ (o : Option ℕ) (d : List ℕ) (to : ℕ) (room : to + length (tail_with o) ≤ length d) where
  module _ (value : ℕ) (e : o ≡ Some value) where
    pub tail_room : to + 2 + length (digits_of 10 value) ≤ length d
    tail_room = omega (arith, length_some o value e)

    pub tail_carried : (d₁ : List ℕ) (end : ℕ) → d₁ ≡ put (set d to 32) (to + 1) (digits_of 10 value) → end ≡ to + 1 + length (digits_of 10 value) → set d₁ end 10 ≡ put d to (tail_with o)
    tail_carried d₁ end e₁ ee =
        let ds : List ℕ = digits_of 10 value in
        let mark : List ℕ = 32 ∷ [] in
        let i₁ : d₁ ≡ put d to (mark ++ ds) = e₁ ∙ ap (λ (l : List ℕ). put l (to + 1) ds) (set-put d to 32 (omega (arith, tail_room))) ∙ put_put d mark ds to (omega (arith, tail_room)) in
        let l : length (mark ++ ds) ≡ 1 + length ds = length-append mark ds in
        let q : end ≡ to + length (mark ++ ds) = omega arith in
        let ld : length (put d to (mark ++ ds)) ≡ length d = length-put d (mark ++ ds) to (omega (arith, tail_room)) in
        (λ k. set (i₁ k) (q k) 10)
        ∙ set-put (put d to (mark ++ ds)) (to + length (mark ++ ds)) 10 (omega (arith, tail_room))
        ∙ put_put d (mark ++ ds) (10 ∷ []) to (omega (arith, tail_room))
        ∙ ap (λ (l : List ℕ). put d to l) (sym (tail_some o value e))

  module _ (e : o ≡ None) where
    pub tail_slot : to < length d
    tail_slot = omega (arith, length_none o e)

    pub tail_alone : set d to 10 ≡ put d to (tail_with o)
    tail_alone = set-put d to 10 tail_slot ∙ ap (λ (l : List ℕ). put d to l) (sym (tail_none o e))

module _ (number : ℕ) (o : Option ℕ) (d : List ℕ) (room : length (refused_with number o) ≤ length d) where
  pub refused_word_lem : 8 ≤ length d
  refused_word_lem = omega (arith, length_refused number o)

  pub refused_number : (m : ℕ) → m ≡ length d → 8 + length (digits_of 10 number) ≤ m
  refused_number m e = omega (arith, length_refused number o)

  pub refused_tail : (m next : ℕ) → m ≡ length d → next ≡ 8 + length (digits_of 10 number) → next + length (tail_with o) ≤ m
  refused_tail m next em en = omega (arith, length_refused number o)

  pub refused_put : (d₁ d₂ d₃ : List ℕ) (next : ℕ) → d₁ ≡ paste d 0 (drop 0 refused_word) 8 → d₂ ≡ put d₁ 8 (digits_of 10 number) → next ≡ 8 + length (digits_of 10 number) → d₃ ≡ put d₂ next (tail_with o)
      → d₃ ≡ put d 0 (refused_with number o)
  unfolding refused_text
  refused_put d₁ d₂ d₃ next e₁ e₂ en e₃ =
      let ds : List ℕ = digits_of 10 number in
      let i₁ : d₁ ≡ put d 0 refused_word = copied d d₁ refused_word 0 8 e₁ refl in
      let i₂ : d₂ ≡ put d 0 (refused_word ++ ds) = e₂ ∙ ap (λ (l : List ℕ). put l 8 ds) i₁ ∙ put_put d refused_word ds 0 (omega arith) in
      let q : next ≡ 0 + length (refused_word ++ ds) = omega (arith, length-append refused_word ds) in
      e₃ ∙ (λ k. put (i₂ k) (q k) (tail_with o)) ∙ put_put d (refused_word ++ ds) (tail_with o) 0 (omega arith)

pub ruleset laws = (octal_six, head_put, line_head, line_room, line_next, line_put, size_small, size_start, size_end, size_turn, fill_start, fill_fits, fill_room, fill_left, fill_end, fill_more, text_short, text_fits, text_written)

pub ruleset refused-laws = (refused_some, refused_none, tail_room, tail_carried, tail_slot, tail_alone, refused_word_lem, refused_number, refused_tail, refused_put)
