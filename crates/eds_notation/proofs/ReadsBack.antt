-- Laws of the way back: the notation of a text, read, puts the text's own letters, lengths and counts.
use Prim.Native.Nat.{ℕ, suc, ◌+◌, ◌*◌, ◌<◌, ◌≤◌}
use native.Mathlib.Omega.{arith}
use mathlib.Core.Path.{◌≡◌, refl, sym, ap, ◌∙◌}
use mathlib.Core.Bool.{Bool, true, false, ◌&&◌, true≢false}
use mathlib.Core.List.{List, [], ◌∷◌, ◌++◌, map, map-append, flatten, append_assoc}
use lib.Dec.{leb, ltb}
use Rattle.std.proofs.Common.{Ok}
use lib.ListN.{length, length-append}
use borrow.Author.Tests.{lt-leb, leb-true, ltb-true}
use Rattle.text.specs.Letter.{base, raised, capital, letter, every}
use Rattle.text.specs.Bits.{any_below}
use Rattle.text.specs.Text.{Variant, Segment, Text}
use Rattle.text.proofs.Truth.{and_left, and_right, and_both, not-true-false, some-any_below}
use Rattle.text.proofs.Meanings.{letter-byte, capitals-letters}
use Rattle.layout.specs.Bytes.{greatest_stretch, word_bytes}
use Rattle.layout.specs.Encoding.{bytes_of, encode_variant, encode_segment, encode, all, distinct, writable_segment, writable}
use Rattle.writer.specs.Writing.{letters_of, lengths_of, counts_of}
use Rattle.eds_notation.specs.Notation.{white, nothing, brace, lettered, act_of}
use Rattle.eds_notation.specs.Reading.{Read, onto, reads}
use Rattle.eds_notation.specs.Braces.{listed, braced, in_braces}
use Rattle.eds_notation.specs.declared.notation.Mode.TheVariants.{Braced}
use Rattle.eds_notation.specs.declared.notation.Begun.{Begun}
use Rattle.eds_notation.specs.declared.notation.Act.TheVariants.{Pass, Letter, Variant as Ends, Segment as Closes}

-- inside braces: k variants are closed, and m letters are read, p of them of the open variant
abbrev pub inside : ℕ → ℕ → ℕ → Begun
inside k m p = record { mode = Braced; variants = k; letters = m; spelt = p }

-- a letter is no white space: one computed test over all bytes
none-white : any_below (λ x. letter x && white x) 256 ≡ false
unfolding any_below letter capital raised base white
none-white = refl

seen : (x : ℕ) → letter x ≡ true → white x ≡ false
seen x e =
    not-true-false (white x) λ w.
    true≢false (sym (some-any_below (λ x. letter x && white x) 256 x (letter-byte x e) (and_both (letter x) (white x) e w)) ∙ none-white)

-- what the signs and letters do inside braces
pub act-letter :
    (k m p x : ℕ) → letter x ≡ true → m < greatest_stretch → p < greatest_stretch →
    act_of (inside k m p) x ≡ Ok (Letter (inside k (m + 1) (p + 1)))
unfolding act_of lettered
act-letter k m p x e l j = rw (seen x e, e, lt-leb greatest_stretch m l, lt-leb greatest_stretch p j)

pub act-brace : act_of nothing 0x7B ≡ Ok (Pass brace)
unfolding act_of white letter capital raised base
act-brace = refl

pub act-comma : (k m p : ℕ) → k < 254 → act_of (inside k m p) 0x2C ≡ Ok (Ends (inside (k + 1) m 0))
unfolding act_of white letter capital raised base
act-comma k m p l = rw (lt-leb 254 k l)

pub act-close : (k m p : ℕ) → act_of (inside k m p) 0x7D ≡ Ok (Closes nothing)
unfolding act_of white letter capital raised base
act-close k m p = refl

-- the letters of a variant
read_letters :
    (v : Variant) (k m p : ℕ) (s : List ℕ) → every letter v ≡ true → m + length v ≤ greatest_stretch → p + length v ≤ greatest_stretch →
    reads (inside k m p) (v ++ s) ≡ onto v [] [] (reads (inside k (m + length v) (p + length v)) s)
unfolding reads every
read_letters [] k m p s e l j =
    let a : m + 0 ≡ m = omega arith in
    let b : p + 0 ≡ p = omega arith in
    rw (a, b)
read_letters (x ∷ v) k m p s e l j =
    let a : m + suc (length v) ≡ m + 1 + length v = omega arith in
    let b : p + suc (length v) ≡ p + 1 + length v = omega arith in
    let first : letter x ≡ true = and_left (letter x) (every letter v) e in
    let act : act_of (inside k m p) x ≡ Ok (Letter (inside k (m + 1) (p + 1))) = act-letter k m p x first (omega arith) (omega arith) in
    let rest = read_letters v k (m + 1) (p + 1) s (and_right (letter x) (every letter v) e) (omega arith) (omega arith) in
    rw (act, a, b) (ap (onto (x ∷ []) [] []) rest)

-- what is put before what is put
onto-letters : (a b l c : List ℕ) (r : Read) → onto a [] [] (onto b l c r) ≡ onto (a ++ b) l c r
onto-letters a b l c r =
    ap (λ (x : List ℕ). record { letters = x; lengths = l ++ r.lengths; counts = c ++ r.counts; begun = r.begun; wrong = r.wrong })
    (sym (append_assoc a b r.letters))

-- the further variants of a segment, of which k are closed and one of p letters is open
read-listed :
    (g : Segment) (k m p : ℕ) (s : List ℕ) → all (every letter) g ≡ true → k + length g ≤ 254 →
    m + length (flatten g) ≤ greatest_stretch →
    reads (inside k m p) (listed 0x2C g ++ s)
    ≡ onto (flatten g) (p ∷ map length g) ((k + 1 + length g) ∷ []) (reads nothing s)
unfolding reads listed all flatten
read-listed [] k m p s e l j =
    let a : k + 1 + 0 ≡ k + 1 = omega arith in
    rw (act-close k m p, a)
read-listed (v ∷ g) k m p s e l j =
    let size : length (v ++ flatten g) ≡ length v + length (flatten g) = length-append v (flatten g) in
    let n : ℕ = length v in
    let rest : List ℕ = listed 0x2C g ++ s in
    let act : act_of (inside k m p) 0x2C ≡ Ok (Ends (inside (k + 1) m 0)) = act-comma k m p (omega arith) in
    let shape : v ++ listed 0x2C g ++ s ≡ v ++ rest = append_assoc v (listed 0x2C g) s in
    let first : reads (inside (k + 1) m 0) (v ++ rest) ≡ onto v [] [] (reads (inside (k + 1) (m + n) (0 + n)) rest) =
    read_letters v (k + 1) m 0 rest (and_left (every letter v) (all (every letter) g) e) (omega (arith, size)) (omega (arith, size)) in
    let zero-n : 0 + n ≡ n = omega arith in
    let last : reads (inside (k + 1) (m + n) n) rest
    ≡ onto (flatten g) (n ∷ map length g) ((k + 1 + 1 + length g) ∷ []) (reads nothing s) =
    read-listed g (k + 1) (m + n) n s (and_right (every letter v) (all (every letter) g) e) (omega arith) (omega (arith, size)) in
    let count : k + 1 + 1 + length g ≡ k + 1 + suc (length g) = omega arith in
    let both : reads (inside (k + 1) m 0) (v ++ listed 0x2C g ++ s)
    ≡ onto (v ++ flatten g) (n ∷ map length g) ((k + 1 + suc (length g)) ∷ []) (reads nothing s) =
    ap (reads (inside (k + 1) m 0)) shape
    ∙ first
    ∙ ap (λ (q : ℕ). onto v [] [] (reads (inside (k + 1) (m + n) q) rest)) zero-n
    ∙ ap (onto v [] []) last
    ∙ onto-letters v (flatten g) (n ∷ map length g) ((k + 1 + 1 + length g) ∷ []) (reads nothing s)
    ∙ ap (λ (q : ℕ). onto (v ++ flatten g) (n ∷ map length g) (q ∷ []) (reads nothing s)) count in
    rw act (ap (onto [] (p ∷ []) []) both)

-- letters in upper case are letters
all-letters : (g : Segment) → all (every capital) g ≡ true → all (every letter) g ≡ true
unfolding all
all-letters [] e = refl
all-letters (v ∷ g) e =
    and_both (every letter v) (all (every letter) g) (capitals-letters v (and_left (every capital v) (all (every capital) g) e))
    (all-letters g (and_right (every capital v) (all (every capital) g) e))

-- a segment that can be written
pub some-letters : (g : Segment) → writable_segment g ≡ true → (0 < length g) × (length g ≤ 255) × (all (every letter) g ≡ true)
unfolding writable_segment
some-letters g e =
    let a : Bool = ltb 0 (length g) in
    let b : Bool = leb (length g) 255 in
    let c : Bool = all (every capital) g in
    let three : (a && b && c) ≡ true = and_left (a && b && c) (distinct [] g) e in
    let two : (a && b) ≡ true = and_left (a && b) c three in
    (ltb-true 0 (length g) (and_left a b two), leb-true (length g) 255 (and_right a b two), all-letters g (and_right (a && b) c three))

read-braced :
    (g : Segment) (s : List ℕ) → writable_segment g ≡ true → length (flatten g) ≤ greatest_stretch →
    reads nothing (braced g ++ s) ≡ onto (flatten g) (map length g) (length g ∷ []) (reads nothing s)
unfolding reads listed all flatten
read-braced [] s e l = absurd (let z : ⊥ = omega (arith, (some-letters [] e).0) in z)
read-braced (v ∷ g) s e l =
    let size : length (v ++ flatten g) ≡ length v + length (flatten g) = length-append v (flatten g) in
    let n : ℕ = length v in
    let rest : List ℕ = listed 0x2C g ++ s in
    let (some, few, letters) = some-letters (v ∷ g) e in
    let shape : v ++ listed 0x2C g ++ s ≡ v ++ rest = append_assoc v (listed 0x2C g) s in
    let first : reads (inside 0 0 0) (v ++ rest) ≡ onto v [] [] (reads (inside 0 (0 + n) (0 + n)) rest) =
    read_letters v 0 0 0 rest (and_left (every letter v) (all (every letter) g) letters) (omega (arith, size)) (omega (arith, size)) in
    let none : 0 + n ≡ n = omega arith in
    let last : reads (inside 0 n n) rest ≡ onto (flatten g) (n ∷ map length g) ((0 + 1 + length g) ∷ []) (reads nothing s) =
    read-listed g 0 n n s (and_right (every letter v) (all (every letter) g) letters) (omega arith) (omega (arith, size)) in
    let count : 0 + 1 + length g ≡ suc (length g) = omega arith in
    let both : reads (inside 0 0 0) (v ++ listed 0x2C g ++ s)
    ≡ onto (v ++ flatten g) (n ∷ map length g) (suc (length g) ∷ []) (reads nothing s) =
    ap (reads (inside 0 0 0)) shape
    ∙ first
    ∙ ap (λ (q : ℕ). onto v [] [] (reads (inside 0 q q) rest)) none
    ∙ ap (onto v [] []) last
    ∙ onto-letters v (flatten g) (n ∷ map length g) ((0 + 1 + length g) ∷ []) (reads nothing s)
    ∙ ap (λ (q : ℕ). onto (v ++ flatten g) (n ∷ map length g) (q ∷ []) (reads nothing s)) count in
    rw act-brace both

-- the bytes of a segment's variants
pub variant-bytes : (g : Segment) → length (bytes_of encode_variant g) ≡ 2 * length g + length (flatten g)
unfolding flatten bytes_of encode_variant word_bytes
variant-bytes [] = refl
variant-bytes (v ∷ g) =
    let a : length (v ++ flatten g) ≡ length v + length (flatten g) = length-append v (flatten g) in
    let b = length-append (word_bytes (length v) ++ v) (bytes_of encode_variant g) in
    let c = length-append (word_bytes (length v)) v in
    omega (arith, a, b, c, variant-bytes g)

pub flatten-more : {A : Type 0} (a b : List (List A)) → flatten (a ++ b) ≡ flatten a ++ flatten b
unfolding flatten
flatten-more [] b = refl
flatten-more (x ∷ a) b = ap (λ r. x ++ r) (flatten-more a b) ∙ sym (append_assoc x (flatten a) (flatten b))

-- what a text puts that is read whole
abbrev pub whole : Text → Read
whole t = record { letters = letters_of t; lengths = lengths_of t; counts = counts_of t; begun = nothing; wrong = 0 }

read-text :
    (t : Text) → all writable_segment t ≡ true → length (bytes_of encode_segment t) ≤ greatest_stretch →
    reads nothing (bytes_of braced t) ≡ whole t
unfolding reads all bytes_of flatten letters_of lengths_of counts_of encode_segment
read-text [] e l = refl
read-text (g ∷ t) e l =
    let sized = length-append (length g ∷ bytes_of encode_variant g) (bytes_of encode_segment t) in
    let small : length (flatten g) ≤ greatest_stretch = omega (arith, sized, variant-bytes g) in
    let one : reads nothing (braced g ++ bytes_of braced t)
    ≡ onto (flatten g) (map length g) (length g ∷ []) (reads nothing (bytes_of braced t)) =
    read-braced g (bytes_of braced t) (and_left (writable_segment g) (all writable_segment t) e) small in
    let rest : reads nothing (bytes_of braced t) ≡ whole t =
    read-text t (and_right (writable_segment g) (all writable_segment t) e) (omega (arith, sized)) in
    let letters : flatten g ++ flatten (flatten t) ≡ flatten (g ++ flatten t) = sym (flatten-more g (flatten t)) in
    let lengths : map length g ++ map length (flatten t) ≡ map length (g ++ flatten t) = sym (map-append length g (flatten t)) in
    one
    ∙ ap (onto (flatten g) (map length g) (length g ∷ [])) rest
    ∙ (λ i. record { letters = letters i; lengths = lengths i; counts = length g ∷ map length t; begun = nothing; wrong = 0 })

-- the notation of a text that can be written
pub reads-back : (t : Text) → writable t ≡ true → reads nothing (in_braces t) ≡ whole t
unfolding writable in_braces encode
reads-back t w =
    let fits = leb-true (length (encode t)) greatest_stretch (and_right (all writable_segment t) _ w) in
    let sized = length-append (word_bytes (length t)) (bytes_of encode_segment t) in
    read-text t (and_left (all writable_segment t) _ w) (omega (arith, fits, sized))
