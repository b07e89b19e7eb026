-- What bytes mean: raising a letter to upper case, and which bytes are letters.
use Prim.Native.Nat.{ℕ, ◌<◌}
use native.Mathlib.Omega.{arith}
use native.Mathlib.Decide.{dec_lt}
use mathlib.Core.Path.{◌≡◌, refl, sym, ap, ◌∙◌}
use mathlib.Core.Logic.{◌⊎◌, inl, inr, ⊎_elim, by_cases}
use mathlib.Core.Bool.{Bool, true, false, not, cond, ◌||◌, false≢true, true≢false}
use mathlib.Core.List.{List, [], ◌∷◌}
use borrow.Author.Tests.{eqb-true, eq-eqb, ne_eqb}
use lib.Bits.{bit_and}
use lib.Dec.{eqb}
use Rattle.text.specs.Letter.{base, unknown, raised, capital, letter, meaning_of, meant, every}
use Rattle.text.specs.Bits.{any_below}
use Rattle.text.specs.declared.letter.Letter.{Letter}
use Rattle.text.specs.declared.letter.Letter.TheVariants.{Base, Unknown, None}
use Rattle.text.proofs.Truth.{or_cases, same_truth, not-true-false, and_left, and_right, and_both, some-any_below}

-- A, C, G or T
abbrev pub Four : ℕ → Type 0
Four c = (c ≡ 0x41) ⊎ ((c ≡ 0x43) ⊎ ((c ≡ 0x47) ⊎ (c ≡ 0x54)))

pub base-four : (c : ℕ) → base c ≡ true → Four c
unfolding base
base-four c e =
    ⊎_elim
    (λ x. ⊎_elim
    (λ y. ⊎_elim (λ z. inl (eqb-true c 0x41 z)) (λ z. inr (inl (eqb-true c 0x43 z))) (or_cases (eqb c 0x41) (eqb c 0x43) y))
    (λ y. inr (inr (inl (eqb-true c 0x47 y)))) (or_cases (eqb c 0x41 || eqb c 0x43) (eqb c 0x47) x))
    (λ x. inr (inr (inr (eqb-true c 0x54 x)))) (or_cases (eqb c 0x41 || eqb c 0x43 || eqb c 0x47) (eqb c 0x54) e)

-- a letter in upper case is raised already
pub base-raised : (c : ℕ) → base c ≡ true → raised c ≡ c
unfolding raised
base-raised c e = four (base-four c e)
  where
    four : Four c → raised c ≡ c
    four (inl x) = rw x
    four (inr (inl x)) = rw x
    four (inr (inr (inl x))) = rw x
    four (inr (inr (inr x))) = rw x

pub capital-raised : (c : ℕ) → capital c ≡ true → raised c ≡ c
unfolding capital raised
capital-raised c e = ⊎_elim (base-raised c) (λ x. let n : c ≡ unknown = eqb-true c unknown x in rw n) (or_cases (base c) (eqb c unknown) e)

-- what is raised is its own, or becomes a letter in upper case
raised-cases : (c : ℕ) → (raised c ≡ c) ⊎ (capital (raised c) ≡ true)
unfolding raised capital base
raised-cases c =
    step (eqb c 0x61) 0x41 _ refl
    (step (eqb c 0x63) 0x43 _ refl
    (step (eqb c 0x67) 0x47 _ refl (step (eqb c 0x74) 0x54 _ refl (step (eqb c 0x6E) 0x4E c refl (inl refl)))))
  where
    step : (b : Bool) (x y : ℕ) → capital x ≡ true → (y ≡ c) ⊎ (capital y ≡ true) → (cond b x y ≡ c) ⊎ (capital (cond b x y) ≡ true)
    step true x y e h = inr e
    step false x y e h = h

pub raised-twice : (c : ℕ) → raised (raised c) ≡ raised c
raised-twice c = ⊎_elim (λ e. ap raised e) (λ e. capital-raised (raised c) e) (raised-cases c)

-- whether an answer names a letter, and the byte that it names
abbrev pub named : Letter → Bool
named (Base b) = true
named Unknown = true
named None = false

abbrev pub shown : ℕ → Letter → ℕ
shown c (Base b) = b
shown c Unknown = unknown
shown c None = c

pub meaning-named : (c : ℕ) → named (meaning_of c) ≡ letter c
unfolding meaning_of letter capital
meaning-named c = step (base (raised c)) (eqb (raised c) unknown)
  where
    step : (b u : Bool) → named (cond b (Base (raised c)) (cond u Unknown None)) ≡ (b || u)
    step true u = refl
    step false true = refl
    step false false = refl

pub meaning-shown : (c : ℕ) → shown c (meaning_of c) ≡ raised c
unfolding meaning_of capital
meaning-shown c = step (base (raised c)) (eqb (raised c) unknown) refl refl
  where
    step : (b u : Bool) → base (raised c) ≡ b → eqb (raised c) unknown ≡ u
        → shown c (cond b (Base (raised c)) (cond u Unknown None)) ≡ raised c
    step true u e f = refl
    step false true e f = sym (eqb-true (raised c) unknown f)
    step false false e f = ⊎_elim sym (λ (x : capital (raised c) ≡ true). absurd (false≢true (rw (e, f) at x))) (raised-cases c)

abbrev pub is_base : Letter → Bool
is_base (Base b) = true
is_base Unknown = false
is_base None = false

meaning-is : (c : ℕ) → is_base (meaning_of c) ≡ base (raised c)
unfolding meaning_of
meaning-is c = step (base (raised c)) (eqb (raised c) unknown)
  where
    step : (b u : Bool) → is_base (cond b (Base (raised c)) (cond u Unknown None)) ≡ b
    step true u = refl
    step false true = refl
    step false false = refl

named-base : (c b : ℕ) → meaning_of c ≡ Base b → base b ≡ true
named-base c b e =
    let is : b ≡ raised c = sym (ap (shown c) e) ∙ meaning-shown c in
    rw is (sym (meaning-is c) ∙ ap is_base e)

-- a byte that means a base is a base as a pattern has it where it is the base itself, and no other is
pub meaning-base : (c b : ℕ) → meaning_of c ≡ Base b → eqb c b ≡ base c
meaning-base c b e =
    let is : b ≡ raised c = sym (ap (shown c) e) ∙ meaning-shown c in
    same_truth (eqb c b) (base c)
    (λ x. let own : c ≡ b = eqb-true c b x in rw own (named-base c b e))
    (λ x. eq-eqb c b (sym (base-raised c x) ∙ sym is))

pub meaning-other : (c : ℕ) → is_base (meaning_of c) ≡ false → false ≡ base c
meaning-other c e =
    sym (not-true-false (base c) λ x. false≢true (sym e ∙ meaning-is c ∙ rw (base-raised c x) x))

-- letters in upper case are letters, and letters mean letters in upper case
pub capital-letter : (c : ℕ) → capital c ≡ true → letter c ≡ true
unfolding letter
capital-letter c e = rw (capital-raised c e) e

pub capitals-letters : (s : List ℕ) → every capital s ≡ true → every letter s ≡ true
unfolding every
capitals-letters [] e = refl
capitals-letters (c ∷ s) e =
    and_both (letter c) (every letter s) (capital-letter c (and_left (capital c) (every capital s) e))
    (capitals-letters s (and_right (capital c) (every capital s) e))

pub capitals-meant : (s : List ℕ) → every capital s ≡ true → meant s ≡ s
unfolding every
capitals-meant [] e = refl
capitals-meant (c ∷ s) e =
    let own = capital-raised c (and_left (capital c) (every capital s) e) in
    let rest = capitals-meant s (and_right (capital c) (every capital s) e) in
    rw (own, rest)

pub letters-capital : (s : List ℕ) → every letter s ≡ true → every capital (meant s) ≡ true
unfolding every letter
letters-capital [] e = refl
letters-capital (c ∷ s) e =
    and_both (capital (raised c)) (every capital (meant s)) (and_left (letter c) (every letter s) e)
    (letters-capital s (and_right (letter c) (every letter s) e))

-- the bases of a pattern spell themselves
pub bases-meant : (P : List ℕ) → every base P ≡ true → meant P ≡ P
unfolding every
bases-meant [] e = refl
bases-meant (c ∷ P) e =
    let own = base-raised c (and_left (base c) (every base P) e) in
    let rest = bases-meant P (and_right (base c) (every base P) e) in
    rw (own, rest)

-- a letter in upper or in lower case
abbrev pub Cased : ℕ → ℕ → ℕ → Type 0
Cased upper lower c = (c ≡ upper) ⊎ (c ≡ lower)

pub either-A : (c : ℕ) → Cased 0x41 0x61 c → Base 0x41 ≡ meaning_of c
unfolding meaning_of raised base
either-A c (inl e) = rw e
either-A c (inr e) = rw e

pub either-C : (c : ℕ) → Cased 0x43 0x63 c → Base 0x43 ≡ meaning_of c
unfolding meaning_of raised base
either-C c (inl e) = rw e
either-C c (inr e) = rw e

pub either-G : (c : ℕ) → Cased 0x47 0x67 c → Base 0x47 ≡ meaning_of c
unfolding meaning_of raised base
either-G c (inl e) = rw e
either-G c (inr e) = rw e

pub either-T : (c : ℕ) → Cased 0x54 0x74 c → Base 0x54 ≡ meaning_of c
unfolding meaning_of raised base
either-T c (inl e) = rw e
either-T c (inr e) = rw e

pub either-N : (c : ℕ) → Cased 0x4E 0x6E c → Unknown ≡ meaning_of c
unfolding meaning_of raised base
either-N c (inl e) = rw e
either-N c (inr e) = rw e

-- none of the ten
pub record NoLetter (c : ℕ) : Type 0 where
  pub not-A : Cased 0x41 0x61 c → ⊥
  pub not-C : Cased 0x43 0x63 c → ⊥
  pub not-G : Cased 0x47 0x67 c → ⊥
  pub not_T : Cased 0x54 0x74 c → ⊥
  pub not-N : Cased 0x4E 0x6E c → ⊥

pub none_of : (c : ℕ) → NoLetter c → None ≡ meaning_of c
unfolding meaning_of raised base
none_of c h =
    rw (
      ne_eqb c 0x61 (λ e. h.not-A (inr e)),
      ne_eqb c 0x63 (λ e. h.not-C (inr e)),
      ne_eqb c 0x67 (λ e. h.not-G (inr e)),
      ne_eqb c 0x74 (λ e. h.not_T (inr e)),
      ne_eqb c 0x6E (λ e. h.not-N (inr e)),
      ne_eqb c 0x41 (λ e. h.not-A (inl e)),
      ne_eqb c 0x43 (λ e. h.not-C (inl e)),
      ne_eqb c 0x47 (λ e. h.not-G (inl e)),
      ne_eqb c 0x54 (λ e. h.not_T (inl e)),
      ne_eqb c 0x4E (λ e. h.not-N (inl e)),
    )

-- a letter is a byte
pub letter-byte : (c : ℕ) → letter c ≡ true → c < 256
letter-byte c e =
    by_cases (dec_lt c 256) (λ (l : c < 256). l) λ (l : ¬ (c < 256)).
    let none : NoLetter c = record {
      not-A = λ k. ⊎_elim (λ x. omega arith) (λ x. omega arith) k;
      not-C = λ k. ⊎_elim (λ x. omega arith) (λ x. omega arith) k;
      not-G = λ k. ⊎_elim (λ x. omega arith) (λ x. omega arith) k;
      not_T = λ k. ⊎_elim (λ x. omega arith) (λ x. omega arith) k;
      not-N = λ k. ⊎_elim (λ x. omega arith) (λ x. omega arith) k;
    } in
    absurd (false≢true (ap named (none_of c none) ∙ meaning-named c ∙ e))

-- a letter without the bit of lower case is what it means: one computed test over all bytes
clears : ℕ → Bool
clears c = not (letter c) || eqb (bit_and c 0xDF) (raised c)

all-clear : any_below (λ c. not (clears c)) 256 ≡ false
unfolding any_below clears letter capital raised base
all-clear = refl

pub cleared : (c : ℕ) → letter c ≡ true → bit_and c 0xDF ≡ raised c
unfolding clears
cleared c is =
    let right : clears c ≡ true = go (clears c) refl in
    eqb-true (bit_and c 0xDF) (raised c) (ap (λ (b : Bool). not b || eqb (bit_and c 0xDF) (raised c)) (sym is) ∙ right)
  where
    go : (b : Bool) → clears c ≡ b → b ≡ true
    go true e = refl
    go false e = absurd (true≢false (sym (some-any_below (λ c. not (clears c)) 256 c (letter-byte c is) (ap not e)) ∙ all-clear))

-- a byte that is no letter is raised already
pub no-letter-raised : (c : ℕ) → letter c ≡ false → c ≡ raised c
unfolding letter
no-letter-raised c e = ⊎_elim sym (λ (x : capital (raised c) ≡ true). absurd (false≢true (sym e ∙ x))) (raised-cases c)
