-- A string lies in some spelling of a text exactly if it has an occurrence that ends somewhere in the text.
use Prim.Native.Nat.{ℕ, zero, suc, ◌<◌, ◌≤◌}
use native.Mathlib.Omega.{arith}
use native.Mathlib.Decide.{dec_lt}
use mathlib.Core.Path.{◌≡◌, refl, sym, ap, ap₂, ◌∙◌}
use mathlib.Core.Logic.{inl, inr, ◌↔◌, by_cases}
use mathlib.Core.List.Memᴰ
use mathlib.Core.List.{List, [], ◌∷◌, ◌++◌, append_assoc}
use lib.ListN.{length, take, length-append}
use Rattle.text.specs.Text.{Segment, Text, segment}
use Rattle.text.specs.Occurrence.{Prefix, Inside, Some, Spells, Across, EndsIn}

-- of two ways to part a string, the one that is later parts what the other leaves
pub record Parted (s u x y : List ℕ) : Type 0 where
  pub middle : List ℕ
  pub first : s ≡ x ++ middle
  pub rest : y ≡ middle ++ u

heads : {a b : ℕ} {s t : List ℕ} → a ∷ s ≡ b ∷ t → (a ≡ b) × (s ≡ t)
heads e = (cc, cc)

parted : (x s u y : List ℕ) → s ++ u ≡ x ++ y → length x ≤ length s → Parted s u x y
parted [] s u y e l = record { middle = s; first = refl; rest = sym e }
parted (a ∷ x) [] u y e l = absurd (let z : ⊥ = omega arith in z)
parted (a ∷ x) (b ∷ s) u y e l =
    let (p, q) = heads {a = b} {b = a} e in
    let h = parted x s u y q (omega arith) in
    record { middle = h.middle; first = ap₂ ◌∷◌ p h.first; rest = h.rest }

-- an occurrence stays one after a further segment
module _ (g : Segment) (T : Text) (P : List ℕ) where
  pub across-later : (i j : ℕ) → Across P T i j → Across P (g ∷ T) (suc i) (suc j)
  across-later i j a =
      let b = a.before in
      record {
        front = a.front;
        last = a.last;
        split = a.split;
        some = a.some;
        before = record { start = b.start; rest = b.rest; split = b.split; some = b.some; begun = b.begun; passed = b.passed };
        ended = a.ended;
      }

  across-earlier : (i j : ℕ) → Across P (g ∷ T) (suc i) (suc j) → Across P T i j
  across-earlier i j a =
      let b = a.before in
      record {
        front = a.front;
        last = a.last;
        split = a.split;
        some = a.some;
        before = record { start = b.start; rest = b.rest; split = b.split; some = b.some; begun = b.begun; passed = b.passed };
        ended = a.ended;
      }

  ends-later : (j : ℕ) → EndsIn P T j → EndsIn P (g ∷ T) (suc j)
  ends-later j (inl h) = inl h
  ends-later j (inr (i, l, a)) = inr (suc i, omega arith, across-later i j a)

-- a beginning of what a text spells: whole variants of the first segments, and a non-empty beginning of a variant of the next
pub record Begins (z : List ℕ) (T : Text) : Type 0 where
  pub at : ℕ
  pub front : List ℕ
  pub last : List ℕ
  pub split : z ≡ front ++ last
  pub some : 0 < length last
  pub passed : Spells (take at T) front
  pub ended : Some (segment T at) (Prefix last)

prefix-begins : (T : Text) (u z : List ℕ) → 0 < length z → Spells T u → Prefix z u → Begins z T
prefix-begins [] u z l e p = absurd (let n = ap length (sym e ∙ p.split) ∙ length-append z p.rest in let x : ⊥ = omega (arith, n) in x)
prefix-begins (g ∷ T) u z l s p =
    let v = s.variant in
    let (r, t, e) = s.is in
    let both : v ++ r ≡ z ++ p.rest = sym e ∙ p.split in
    by_cases (dec_lt (length v) (length z))
    (λ (m : length v < length z).
    let h = parted v z p.rest r (sym both) (omega arith) in
    let some : 0 < length h.middle = omega (arith, ap length h.first, length-append v h.middle) in
    let b = prefix-begins T r h.middle some t (record { rest = p.rest; split = h.rest }) in
    record {
      at = suc b.at;
      front = v ++ b.front;
      last = b.last;
      split = h.first ∙ ap (λ (x : List ℕ). v ++ x) b.split ∙ sym (append_assoc v b.front b.last);
      some = b.some;
      passed = record { variant = v; listed = s.listed; is = (b.front, b.passed, refl) };
      ended = b.ended;
    })
    (λ (m : ¬ (length v < length z)).
    let h = parted z v r p.rest both (omega arith) in
    record {
      at = 0;
      front = [];
      last = z;
      split = refl;
      some = l;
      passed = refl;
      ended = record { variant = v; listed = s.listed; is = record { rest = h.middle; split = h.first } };
    })

-- what lies in a spelling ends somewhere
spelt-ends : (T : Text) (h P : List ℕ) → 0 < length P → Spells T h → Inside P h → (j : ℕ) × EndsIn P T j
spelt-ends [] h P l e p =
    absurd (
    let n = ap length (sym e ∙ p.split) ∙ length-append p.start (P ++ p.rest) in
    let x : ⊥ = omega (arith, n, length-append P p.rest) in
    x
    )
spelt-ends (g ∷ T) h P l s p =
    let v = s.variant in
    let (u, t, e) = s.is in
    let both : v ++ u ≡ p.start ++ (P ++ p.rest) = sym e ∙ p.split in
    by_cases (dec_lt (length p.start) (length v))
    (λ (m : length p.start < length v).
    let a = parted p.start v u (P ++ p.rest) both (omega arith) in
    by_cases (dec_lt (length a.middle) (length P))
    (λ (k : length a.middle < length P).
    let b = parted a.middle P p.rest u (sym (sym a.rest)) (omega arith) in
    let begun : 0 < length a.middle = omega (arith, ap length a.first, length-append p.start a.middle) in
    let left : 0 < length b.middle = omega (arith, ap length b.first, length-append a.middle b.middle) in
    let c = prefix-begins T u b.middle left t (record { rest = p.rest; split = b.rest }) in (
      suc c.at,
      inr (
        0,
        omega arith,
        record {
          front = a.middle ++ c.front;
          last = c.last;
          split = b.first ∙ ap (λ (x : List ℕ). a.middle ++ x) c.split ∙ sym (append_assoc a.middle c.front c.last);
          some = c.some;
          before = record {
            start = a.middle;
            rest = c.front;
            split = refl;
            some = begun;
            begun = record { variant = v; listed = s.listed; is = record { start = p.start; split = a.first } };
            passed = c.passed;
          };
          ended = c.ended;
        },
      ),
    ))
    (λ (k : ¬ (length a.middle < length P)).
    let b = parted P a.middle u p.rest (sym a.rest) (omega arith) in
    let whole : v ≡ p.start ++ (P ++ b.middle) = a.first ∙ ap (λ (x : List ℕ). p.start ++ x) b.first in
    (0, inl (record { variant = v; listed = s.listed; is = record { start = p.start; rest = b.middle; split = whole } }))))
    (λ (m : ¬ (length p.start < length v)).
    let a = parted v p.start (P ++ p.rest) u (sym both) (omega arith) in
    let (j, x) = spelt-ends T u P l t (record { start = a.middle; rest = p.rest; split = a.rest }) in
    (suc j, ends-later g T P j x))

-- every segment has a variant
abbrev pub Filled : Text → Type 0
Filled [] = Unit {0}
Filled (g ∷ T) = (0 < length g) × Filled T

first-variant : (g : Segment) → 0 < length g → Some g (λ v. Unit {0})
first-variant [] l = absurd (let z : ⊥ = omega arith in z)
first-variant (v ∷ g) l = record { variant = v; listed = Memᴰ.head refl; is = tt }

-- so it spells something, and any spelling of its first segments goes on
spells-some : (T : Text) → Filled T → (u : List ℕ) × Spells T u
spells-some [] f = ([], refl)
spells-some (g ∷ T) f =
    let v = first-variant g f.0 in
    let (u, t) = spells-some T f.1 in
    (v.variant ++ u, record { variant = v.variant; listed = v.listed; is = (u, t, refl) })

begins-prefix : (T : Text) (at : ℕ) (front last : List ℕ) → Filled T → Spells (take at T) front → Some (segment T at) (Prefix last) →
    (u : List ℕ) × Spells T u × Prefix (front ++ last) u
begins-prefix [] at front last f s e = absurd (Memᴰ.not-nil e.listed)
begins-prefix (g ∷ T) zero front last f s e =
    let (u, t) = spells-some T f.1 in
    let v = e.variant in
    let r = e.is.rest in
    let split : v ++ u ≡ (front ++ last) ++ (r ++ u) =
    ap (λ (x : List ℕ). x ++ u) e.is.split ∙ append_assoc last r u ∙ ap (λ (x : List ℕ). (x ++ last) ++ (r ++ u)) (sym s) in
    (v ++ u, record { variant = v; listed = e.listed; is = (u, t, refl) }, record { rest = r ++ u; split = split })
begins-prefix (g ∷ T) (suc at) front last f s e =
    let v = s.variant in
    let (x, y, q) = s.is in
    let (u, t, p) = begins-prefix T at x last f.1 y e in
    let split : v ++ u ≡ (front ++ last) ++ p.rest =
    ap (λ (z : List ℕ). v ++ z) p.split
    ∙ sym (append_assoc v (x ++ last) p.rest)
    ∙ ap (λ (z : List ℕ). z ++ p.rest) (sym (append_assoc v x last) ∙ ap (λ (z : List ℕ). z ++ last) (sym q)) in
    (v ++ u, record { variant = v; listed = s.listed; is = (u, t, refl) }, record { rest = p.rest; split = split })

-- after any string
later : (v P h : List ℕ) → Inside P h → Inside P (v ++ h)
later v P h p = record {
  start = v ++ p.start;
  rest = p.rest;
  split = ap (λ (x : List ℕ). v ++ x) p.split ∙ sym
      (append_assoc v p.start (P ++ p.rest));
}

abbrev Read : Text → List ℕ → Type 0
Read T P = (h : List ℕ) × Spells T h × Inside P h

read-later : (g : Segment) (T : Text) (P : List ℕ) → 0 < length g → Read T P → Read (g ∷ T) P
read-later g T P l (h, s, p) =
    let v = first-variant g l in
    (v.variant ++ h, record { variant = v.variant; listed = v.listed; is = (h, s, refl) }, later v.variant P h p)

-- what ends somewhere lies in a spelling
ends-spelt : (T : Text) (P : List ℕ) (j : ℕ) → Filled T → EndsIn P T j → Read T P
ends-spelt [] P j f (inl e) = absurd (Memᴰ.not-nil e.listed)
ends-spelt [] P j f (inr (i, l, a)) = absurd (Memᴰ.not-nil a.ended.listed)
ends-spelt (g ∷ T) P zero f (inl e) =
    let (u, t) = spells-some T f.1 in
    let v = e.variant in
    let r = e.is.rest in
    let a = e.is.start in
    let split : v ++ u ≡ a ++ (P ++ (r ++ u)) =
    ap (λ (x : List ℕ). x ++ u) e.is.split ∙ append_assoc a (P ++ r) u ∙ ap (λ (x : List ℕ). a ++ x) (append_assoc P r u) in
    (v ++ u, record { variant = v; listed = e.listed; is = (u, t, refl) }, record { start = a; rest = r ++ u; split = split })
ends-spelt (g ∷ T) P zero f (inr (i, l, a)) = absurd (let z : ⊥ = omega arith in z)
ends-spelt (g ∷ T) P (suc j) f (inl e) = read-later g T P f.0 (ends-spelt T P j f.1 (inl e))
ends-spelt (g ∷ T) P (suc j) f (inr (zero, l, a)) =
    let b = a.before in
    let v = b.begun.variant in
    let x = b.begun.is.start in
    let (u, t, p) = begins-prefix T j b.rest a.last f.1 b.passed a.ended in
    let own : P ≡ b.start ++ (b.rest ++ a.last) =
    a.split ∙ ap (λ (z : List ℕ). z ++ a.last) b.split ∙ append_assoc b.start b.rest a.last in
    let split : v ++ u ≡ x ++ (P ++ p.rest) =
    ap (λ (z : List ℕ). z ++ u) b.begun.is.split
    ∙ append_assoc x b.start u
    ∙ ap (λ (z : List ℕ). x ++ z)
    (ap (λ (z : List ℕ). b.start ++ z) p.split
    ∙ sym (append_assoc b.start (b.rest ++ a.last) p.rest)
    ∙ ap (λ (z : List ℕ). z ++ p.rest) (sym own)) in
    (v ++ u, record { variant = v; listed = b.begun.listed; is = (u, t, refl) }, record { start = x; rest = p.rest; split = split })
ends-spelt (g ∷ T) P (suc j) f (inr (suc i, l, a)) =
    read-later g T P f.0 (ends-spelt T P j f.1 (inr (i, omega arith, across-earlier g T P i j a)))

-- the theorem
pub read-ends : (T : Text) (P : List ℕ) → 0 < length P → Filled T → ((h : List ℕ) × Spells T h × Inside P h) ↔ ((j : ℕ) × EndsIn P T j)
read-ends T P l f = (λ x. spelt-ends T x.0 P l x.1 x.2, λ x. ends-spelt T P x.0 f x.1)
