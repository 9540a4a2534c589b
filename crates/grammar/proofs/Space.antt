-- The file by its places: one with a good header is spelled exactly if the bytes between header and trailer are entries and then extensions. Assumes nothing.
use Rattle.std.specs.Prelude.{ℕ, ◌+◌, ◌-◌, ◌≤◌, ◌≡◌, refl, Bool, List, ◌++◌, ◌↔◌, length, take, drop}
use Rattle.std.proofs.Common.{sym, ap, ◌∙◌, subst, append_assoc, arith, length-append, length-drop, take-append-drop, take_at, drop_at, take-add, drop-drop, take-take, length-take-le}
use Rattle.std.proofs.Math.Option.{Option}
use Rattle.grammar.specs.Number.{big_endian, big_endian_lem}
use Rattle.grammar.specs.Entry.{Meaning, start, Entries}
use Rattle.grammar.specs.Extension.{Ext, Extensions}
use Rattle.grammar.specs.Tree.{Tree}
use Rattle.grammar.specs.File.{Index, DIRC, header_length, Supported, Header, header, Sparse, Tells, CacheTree, File, file, version_of, count_of, space, GoodHeader}
use Rattle.grammar.proofs.DecideFile.{header_length_lem}

-- what the bytes between header and trailer spell
pub data Spells (n version count : ℕ) (xs : List ℕ) : Index → Type 0 where
  spells : {b c : List ℕ} {ms : List Meaning} {es : List Ext} {sparse : Bool} {tree : Option Tree} → xs ≡ b ++ c → Entries n version start count b ms → Extensions c es → Tells (Sparse ms es) sparse
      → CacheTree n (header_length + length b) es tree → Spells n version count xs (record { version = version; sparse = sparse; entries = ms; tree = tree })

record Headed (h rest : List ℕ) (version count : ℕ) : Type 0 where
  signature : take 4 (h ++ rest) ≡ DIRC
  version_there : version_of (h ++ rest) ≡ version
  count_there : count_of (h ++ rest) ≡ count
  supported : Supported version

headed : {h : List ℕ} {version count : ℕ} → Header h version count → (rest : List ℕ) → Headed h rest version count
headed (header (big_endian_lem {b = v} e) y (big_endian_lem {b = c} f)) rest =
    let i : take 4 ((v ++ c) ++ rest) ≡ v = ap (λ (l : List ℕ). take 4 l) (append_assoc v c rest) ∙ take_at v (c ++ rest) 4 e in
    let j : drop 4 ((v ++ c) ++ rest) ≡ c ++ rest = ap (λ (l : List ℕ). drop 4 l) (append_assoc v c rest) ∙ drop_at v (c ++ rest) 4 e in
    let k : take 4 (drop 4 ((v ++ c) ++ rest)) ≡ c = ap (λ (l : List ℕ). take 4 l) j ∙ take_at c rest 4 f in
    record { signature = refl; version_there = ap big_endian i; count_there = ap big_endian k; supported = y }

-- the trailer is the last n bytes
space_is : (h b c t : List ℕ) (n : ℕ) → length h ≡ header_length → length t ≡ n → space n (h ++ (b ++ (c ++ t))) ≡ b ++ c
space_is h b c t n e f =
    let i : h ++ (b ++ (c ++ t)) ≡ (h ++ (b ++ c)) ++ t = ap (λ (l : List ℕ). h ++ l) (sym (append_assoc b c t)) ∙ sym (append_assoc h (b ++ c) t) in
    let k : length (h ++ (b ++ c)) ≡ length (h ++ (b ++ (c ++ t))) - n = omega (arith, ap length i, length-append (h ++ (b ++ c)) t) in
    let j : take (length (h ++ (b ++ (c ++ t))) - n) (h ++ (b ++ (c ++ t))) ≡ h ++ (b ++ c) =
    ap (λ (l : List ℕ). take (length (h ++ (b ++ (c ++ t))) - n) l) i ∙ take_at (h ++ (b ++ c)) t (length (h ++ (b ++ (c ++ t))) - n) k in
    ap (λ (l : List ℕ). drop header_length l) j ∙ drop_at h (b ++ c) header_length e

pub spelled_has_good_header : {n : ℕ} {xs : List ℕ} {m : Index} → File n xs m → GoodHeader n xs
spelled_has_good_header {n} (file {h = h} {b = b} {c = c} {trailer = t} x y z w s o) =
    let k = headed x (b ++ (c ++ t)) in
    record {
      long = simp length-append (omega (arith, header_length_lem x, w.size));
      signature = k.signature;
      version = subst Supported (sym k.version_there) k.supported;
    }

pub spelled_in_space : {n : ℕ} {xs : List ℕ} {m : Index} → File n xs m → Spells n (version_of xs) (count_of xs) (space n xs) m
spelled_in_space {n} (file {h = h} {b = b} {c = c} {trailer = t} {version = version} {count = count} x y z w s o) =
    let k = headed x (b ++ (c ++ t)) in
    rw (k.version_there, k.count_there, space_is h b c t n (header_length_lem x) w.size) (spells refl y z s o)

-- the header where it stands
good_header : (n : ℕ) (xs : List ℕ) → GoodHeader n xs → Header (take header_length xs) (version_of xs) (count_of xs)
good_header n xs g =
    let l : header_length + n ≤ length xs = g.long in
    let v : length (take 4 (drop 4 xs)) ≡ 4 = length-take-le 4 (drop 4 xs) (omega (arith, length-drop 4 xs)) in
    let c : length (take 4 (drop 8 xs)) ≡ 4 = length-take-le 4 (drop 8 xs) (omega (arith, length-drop 8 xs)) in
    let i : take header_length xs ≡ DIRC ++ (take 4 (drop 4 xs) ++ take 4 (drop 8 xs)) =
    take-add 4 8 xs ∙ (λ j. g.signature j ++ take 8 (drop 4 xs))
    ∙ ap (λ (s : List ℕ). DIRC ++ s) (take-add 4 4 (drop 4 xs) ∙ ap (λ (s : List ℕ). take 4 (drop 4 xs) ++ take 4 s) (drop-drop 4 4 xs)) in
    rw i (header (big_endian_lem {b = take 4 (drop 4 xs)} v) g.version (big_endian_lem {b = take 4 (drop 8 xs)} c))

same_bytes_lem : {n : ℕ} {xs ys : List ℕ} {m : Index} → xs ≡ ys → File n ys m → File n xs m
same_bytes_lem {n} {m = m} e x = subst (λ (a : List ℕ). File n a m) (sym e) x

pub space_spelled : {n : ℕ} {xs : List ℕ} {m : Index} → GoodHeader n xs → Spells n (version_of xs) (count_of xs) (space n xs) m → File n xs m
space_spelled {n} {xs} g (spells {b = b} {c = c} i y z s o) =
    let l : header_length + n ≤ length xs = g.long in
    let j : take (length xs - n) xs ≡ take header_length xs ++ (b ++ c) =
    sym (take-append-drop header_length (take (length xs - n) xs)) ∙ (λ a. take-take header_length (length xs - n) xs (omega arith) a ++ i a) in
    let e : xs ≡ take header_length xs ++ (b ++ (c ++ drop (length xs - n) xs)) =
    sym (take-append-drop (length xs - n) xs) ∙ ap (λ (a : List ℕ). a ++ drop (length xs - n) xs) j ∙ append_assoc (take header_length xs) (b ++ c) (drop (length xs - n) xs)
    ∙ ap (λ (a : List ℕ). take header_length xs ++ a) (append_assoc b c (drop (length xs - n) xs)) in
    same_bytes_lem e (file (good_header n xs g) y z (record { size = omega (arith, length-drop (length xs - n) xs) }) s o)

-- THE THEOREM
pub spelled_exactly_in_space : (n : ℕ) (xs : List ℕ) (m : Index) → File n xs m ↔ (GoodHeader n xs × Spells n (version_of xs) (count_of xs) (space n xs) m)
spelled_exactly_in_space n xs m = ((λ x. (spelled_has_good_header x, spelled_in_space x)), (λ (g, x). space_spelled g x))
