-- Laws of alleles and of records: each test of the code, and what it says of the definition.
use Prim.Native.Nat.{ℕ, ◌+◌, ◌-◌, ◌<◌, ◌≤◌}
use native.Mathlib.Omega.{arith}
use native.Mathlib.Decide.{dec_lt}
use mathlib.Core.Path.{◌≡◌, refl, ◌∙◌}
use mathlib.Core.Logic.{by_cases}
use mathlib.Core.Bool.{Bool, true, false, ◌&&◌, cond}
use mathlib.Core.List.{List, [], ◌∷◌}
use lib.Dec.{eqb, leb, ltb}
use lib.ListN.{length, drop, get_or}
use borrow.Author.Tests.{le-ltb, lt-ltb, lt-leb, le-leb, ltb-true, ltb-false, eq-eqb, ne_eqb}
use Rattle.text.specs.Letter.{letter, first_not}
use Rattle.text.specs.Compare.{same}
use Rattle.text.proofs.Letters.{first-le, first-every, first-not-every}
use Rattle.text.proofs.Truth.{and-true}
use Rattle.layout.specs.Bytes.{part}
use Rattle.layout.specs.Encoding.{all}
use Rattle.vcf.specs.Pieces.{pieces, end_of, Ends}
use Rattle.std.proofs.Common.{Option, None, Some, not, is_some}
use Rattle.vcf.specs.Records.{field, position, stated, allele, none, alternates, are_alleles, alternates_sound, is_record, comment}
use Rattle.vcf.proofs.Marks.{cut-next, cut-last}

pub comment-empty : (l : List ℕ) → length l ≡ 0 → comment l ≡ false
unfolding comment
comment-empty [] e = refl
comment-empty (x ∷ l) e = absurd (let z : ⊥ = omega arith in z)

pub comment-is : (l : List ℕ) → eqb (get_or l 0 0) 0x23 ≡ comment l
unfolding comment
comment-is l = refl

pub allele-empty : (s : List ℕ) → length s ≡ 0 → allele s ≡ false
unfolding allele
allele-empty s e = rw (le-ltb 0 (length s) (omega arith))

pub allele-is : (s : List ℕ) (r : ℕ) → (length s ≡ 0 → ⊥) → r ≡ first_not letter s → eqb r (length s) ≡ allele s
unfolding allele
allele-is s r n e =
    let some : ltb 0 (length s) ≡ true = lt-ltb 0 (length s) (omega arith) in
    by_cases (dec_lt r (length s))
    (λ (l : r < length s).
    let m : first_not letter s < length s = omega arith in
    rw (some, first-not-every letter s m) (ne_eqb r (length s) (λ (z : r ≡ length s). omega arith)))
    (λ (l : ¬ (r < length s)).
    let m : first_not letter s ≡ length s = omega (arith, first-le letter s) in
    rw (some, first-every letter s m) (eq-eqb r (length s) (e ∙ m)))

-- the pieces of an ALT field are asked one by one, from place `from` on
pub record Asked (a : List ℕ) (from : ℕ) : Type 0 where
  pub inside : from ≤ length a
  pub rest : are_alleles a ≡ all allele (pieces 0x2C (drop from a))

pub asked-none : (a : List ℕ) → Asked a 0
unfolding are_alleles
asked-none a = record { inside = omega arith; rest = refl }

module _ {a : List ℕ} {from end : ℕ} (h : Asked a from) (e : Ends 0x2C a from end) where
  asked-first : (f : Bool) → allele (part a from (end - from)) ≡ f → (end ≡ length a → ⊥) → are_alleles a ≡
      (f && all allele (pieces 0x2C (drop (end + 1) a)))
  unfolding all
  asked-first f t n =
      let m : end_of 0x2C a from < length a = omega (arith, n) in
      h.rest ∙ rw (cut-next 0x2C a from ([] ∷ []) m, ← e.is, t)

  asked-last : (f : Bool) → allele (part a from (end - from)) ≡ f → end ≡ length a → are_alleles a ≡ f
  unfolding all
  asked-last f t m =
      let n : end_of 0x2C a from ≡ length a = omega arith in
      h.rest ∙ rw (cut-last 0x2C a from h.inside n, ← e.is, t) (and-true f)

  pub asked-wrong : allele (part a from (end - from)) ≡ false → are_alleles a ≡ false
  asked-wrong t =
      by_cases (dec_lt end (length a))
      (λ (l : end < length a). asked-first false t (λ (z : end ≡ length a). omega arith))
      (λ (l : ¬ (end < length a)). asked-last false t (omega (arith, e.inside)))

  pub asked-all : allele (part a from (end - from)) ≡ true → end ≡ length a → are_alleles a ≡ true
  asked-all t m = asked-last true t m

  pub asked-more : allele (part a from (end - from)) ≡ true → (end ≡ length a → ⊥) → Asked a (end + 1)
  asked-more t n = record { inside = omega (arith, n); rest = asked-first true t n }

-- an ALT field
pub sound_none : (a : List ℕ) → none a ≡ true → alternates_sound a ≡ true
unfolding alternates_sound alternates all
sound_none a e = rw e

pub sound-many : (a : List ℕ) → none a ≡ false → ltb 254 (length (pieces 0x2C a)) ≡ true → alternates_sound a ≡ false
unfolding alternates_sound alternates
sound-many a e m = rw (e, lt-leb (length (pieces 0x2C a)) 254 (ltb-true 254 (length (pieces 0x2C a)) m))

pub sound-few : (a : List ℕ) → none a ≡ false → ltb 254 (length (pieces 0x2C a)) ≡ false → are_alleles a ≡ alternates_sound a
unfolding alternates_sound alternates are_alleles
sound-few a e m = rw (e, le-leb (length (pieces 0x2C a)) 254 (ltb-false 254 (length (pieces 0x2C a)) m))

-- a line is asked test by test
abbrev pub found : List ℕ → List ℕ → Option ℕ
found name l = cond (is_record name l) (Some (position l)) None

-- what was found says whether the line is a record, and where
pub unsound : (b : Bool) (p : ℕ) {x : Option ℕ} → x ≡ cond b (Some p) None → x ≡ None → b ≡ false
unsound true p e f = absurd (let x : ◌≡◌ {A = ℕ} 0 1 = cc in let y : ⊥ = omega arith in y)
unsound false p e f = refl

pub sounds : (b : Bool) (p : ℕ) {r : ℕ} {x : Option ℕ} → x ≡ cond b (Some p) None → x ≡ Some r → (b ≡ true) × (p ≡ r)
sounds true p e f = (refl, cc)
sounds false p e f = absurd (let x : ◌≡◌ {A = ℕ} 0 1 = cc in let y : ⊥ = omega arith in y)

pub unsounds : (b : Bool) (p : ℕ) {x : Option ℕ} {r : Bool} → x ≡ cond b (Some p) None → is_some x ≡ not r → r ≡ true → b ≡ false
unsounds true p e f g = absurd (let x : ◌≡◌ {A = ℕ} 0 1 = cc in let y : ⊥ = omega arith in y)
unsounds false p e f g = refl

pub sounded : (b : Bool) (p : ℕ) {x : Option ℕ} {r : Bool} → x ≡ cond b (Some p) None → is_some x ≡ not r → r ≡ false → b ≡ true
sounded true p e f g = refl
sounded false p e f g = absurd (let x : ◌≡◌ {A = ℕ} 0 1 = cc in let y : ⊥ = omega arith in y)

module _ (name l : List ℕ) where
  pub few-fields : ltb 7 (length (pieces 0x09 l)) ≡ false → found name l ≡ None
  unfolding is_record
  few-fields e = rw (lt-leb 8 (length (pieces 0x09 l)) (omega (arith, ltb-false 7 (length (pieces 0x09 l)) e)))

  module _ (enough : ltb 7 (length (pieces 0x09 l)) ≡ true) where
    fields : leb 8 (length (pieces 0x09 l)) ≡ true
    fields = le-leb 8 (length (pieces 0x09 l)) (omega (arith, ltb-true 7 (length (pieces 0x09 l)) enough))

    pub wrong_name : same (field l 0) name ≡ false → found name l ≡ None
    unfolding is_record
    wrong_name e = rw (fields, e)

    module _ (named : same (field l 0) name ≡ true) where
      pub wrong-reference : allele (field l 3) ≡ false → found name l ≡ None
      unfolding is_record
      wrong-reference e = rw (fields, named, e)

      module _ (refd : allele (field l 3) ≡ true) where
        pub wrong-alternates : alternates_sound (field l 4) ≡ false → found name l ≡ None
        unfolding is_record
        wrong-alternates e = rw (fields, named, refd, e)

        pub stated-position : alternates_sound (field l 4) ≡ true → found name l ≡ stated (position l)
        unfolding is_record
        stated-position e = rw (fields, named, refd, e) (kept (position l))
          where
            kept : (p : ℕ) → cond (ltb 0 p) (Some p) None ≡ stated p
            kept p =
                by_cases (dec_lt 0 p)
                (λ (m : 0 < p). rw (lt-ltb 0 p m, ne_eqb p 0 (λ (z : p ≡ 0). omega arith)))
                (λ (m : ¬ (0 < p)). rw (le-ltb 0 p (omega arith), eq-eqb p 0 (omega arith)))

-- a test of a part that a call handed out
pub through : (f : List ℕ → Bool) {x y : List ℕ} {r b : Bool} → x ≡ y → r ≡ f x → r ≡ b → f y ≡ b
through f e t u = rw (← e, ← t) u
