-- What the opposite of a pattern finds: it has an occurrence from segment i to segment j of a text exactly when the pattern has one, in the
-- opposite text, from where j then stands to where i then stands.
use Prim.Native.Nat.{ℕ, suc, ◌+◌, ◌-◌, ◌<◌, ◌≤◌}
use native.Mathlib.Nat.{le_refl}
use native.Mathlib.Omega.{arith}
use mathlib.Core.Path.{◌≡◌, refl, sym, ap, ◌∙◌}
use mathlib.Core.Logic.Iff
use mathlib.Core.Logic.{◌↔◌, inl, inr}
use mathlib.Core.List.Memᴰ
use mathlib.Core.List.{List, [], ◌∷◌, ◌++◌, append_assoc, append-nil}
use lib.ListN.{length, get_or, take, drop, length-drop}
use lib.Seq.{length-take-le, take-add, drop_at}
use Rattle.text.specs.Text.{Variant, Segment, Text, segment}
use Rattle.text.specs.Occurrence.{Prefix, Suffix, Inside, Some, Spells, between, Across, EndsIn, Occurs, BeginsIn}
use Rattle.text.specs.State.{marks}
use Rattle.text.specs.Strand.{opposite, opposite_segment, opposite_text, facing}
use Rattle.text.proofs.Turned.{turned, turned-at, take-turned, drop-turned}
use Rattle.text.proofs.Strands.{opposite-append, opposite-twice, opposite-length, text-cons, text-twice, text-length}
use Rattle.text.proofs.Marks.{listed-within}
use Rattle.text.proofs.Occurrences.{marks-ends}

-- the parts of a variant, in its opposite
prefix-opposite : (p s : List ℕ) → Prefix p s → Suffix (opposite p) (opposite s)
prefix-opposite p s h = record { start = opposite h.rest; split = ap opposite h.split ∙ opposite-append p h.rest }

suffix-opposite : (p s : List ℕ) → Suffix p s → Prefix (opposite p) (opposite s)
suffix-opposite p s h = record { rest = opposite h.start; split = ap opposite h.split ∙ opposite-append h.start p }

inside-opposite : (p s : List ℕ) → Inside p s → Inside (opposite p) (opposite s)
inside-opposite p s h =
    let a = h.start in
    let b = h.rest in
    record {
      start = opposite b;
      rest = opposite a;
      split =
          ap opposite h.split
          ∙ opposite-append a (p ++ b)
          ∙ ap (λ (x : List ℕ). x ++ opposite a) (opposite-append p b)
          ∙ append_assoc (opposite b) (opposite p) (opposite a);
    }

some-opposite : (g : Segment) {A B : Variant → Type 0} → ((s : Variant) → A s → B (opposite s)) → Some g A → Some (opposite_segment g) B
some-opposite g f h = record { variant = opposite h.variant; listed = Memᴰ.map opposite h.listed; is = f h.variant h.is }

-- one whole variant of each segment, end to end, in the opposite text
spells-append : (T U : Text) (w u : List ℕ) → Spells T w → Spells U u → Spells (T ++ U) (w ++ u)
spells-append [] U w u e h = rw e h
spells-append (g ∷ T) U w u x h =
    let rest = x.is.0 in
    record {
      variant = x.variant;
      listed = x.listed;
      is = (rest ++ u, spells-append T U rest u x.is.1 h, ap (λ (l : List ℕ). l ++ u) x.is.2 ∙ append_assoc x.variant rest u);
    }

spells-opposite : (T : Text) (w : List ℕ) → Spells T w → Spells (opposite_text T) (opposite w)
unfolding opposite_text opposite
spells-opposite [] w e = ap opposite e
spells-opposite (g ∷ T) w x =
    let s = x.variant in
    let u = x.is.0 in
    let turned : opposite w ≡ opposite u ++ opposite s = ap opposite x.is.2 ∙ opposite-append s u in
    let last : Spells (opposite_segment g ∷ []) (opposite s) =
    record { variant = opposite s; listed = Memᴰ.map opposite x.listed; is = ([], refl, sym (append-nil (opposite s))) } in
    let before = spells-opposite T u x.is.1 in
    rw (text-cons g T, turned) (spells-append (opposite_text T) (opposite_segment g ∷ []) (opposite u) (opposite s) before last)

-- where segments stand in the opposite text, and what stands between them
segment-opposite : (T : Text) (i : ℕ) → i < length T → segment (opposite_text T) (facing T i) ≡ opposite_segment (segment T i)
unfolding opposite_text
segment-opposite T i l =
    let near : length T - 1 - i ≡ length T - suc i = omega arith in
    ap (λ (k : ℕ). segment (opposite_text T) k) near ∙ turned-at opposite_segment T i [] [] l

between-drop : (T : Text) (i j : ℕ) → i < j → j < length T → between T i j ≡ take (j - suc i) (drop (suc i) T)
between-drop T i j early l =
    let whole : j ≡ suc i + (j - suc i) = omega arith in
    let short : suc i ≤ length T = omega arith in
    ap (λ (k : ℕ). drop (suc i) (take k T)) whole
    ∙ ap (drop (suc i)) (take-add (suc i) (j - suc i) T)
    ∙ drop_at (take (suc i) T) (take (j - suc i) (drop (suc i) T)) (suc i) (length-take-le (suc i) T short)

between-opposite : (T : Text) (i j : ℕ) → i < j → j < length T
    → between (opposite_text T) (facing T j) (facing T i) ≡ opposite_text (between T i j)
unfolding opposite_text
between-opposite T i j early l =
    ap (drop (suc (facing T j))) (take-turned opposite_segment (facing T i) T within)
    ∙ ap (λ (k : ℕ). drop (suc (facing T j)) (turned opposite_segment (drop k T))) from
    ∙ drop-turned opposite_segment (suc (facing T j)) (drop (suc i) T) left
    ∙ ap (λ (k : ℕ). turned opposite_segment (take k (drop (suc i) T))) upto
    ∙ ap (turned opposite_segment) (sym (between-drop T i j early l))
  where
    within : facing T i ≤ length T
    within = omega arith

    from : length T - facing T i ≡ suc i
    from = omega arith

    left : suc (facing T j) ≤ length (drop (suc i) T)
    left = omega (arith, length-drop (suc i) T)

    upto : length (drop (suc i) T) - suc (facing T j) ≡ j - suc i
    upto = omega (arith, length-drop (suc i) T)

module _ (P : List ℕ) (T : Text) (i j : ℕ) (near : i < length T) (far : j < length T) where
  across-opposite : i < j → Across P T i j → Across (opposite P) (opposite_text T) (facing T j) (facing T i)
  across-opposite early a =
      let front = a.before.start in
      let middle = a.before.rest in
      let last = a.last in
      record {
        front = opposite last ++ opposite middle;
        last = opposite front;
        split =
            ap opposite a.split
            ∙ opposite-append a.front last
            ∙ ap (λ (x : List ℕ). opposite last ++ x) (ap opposite a.before.split ∙ opposite-append front middle)
            ∙ sym (append_assoc (opposite last) (opposite middle) (opposite front));
        some = omega (arith, opposite-length front, a.before.some);
        before =
            record {
              start = opposite last;
              rest = opposite middle;
              split = refl;
              some = omega (arith, opposite-length last, a.some);
              begun = rw (segment-opposite T j far) (some-opposite (segment T j) (prefix-opposite last) a.ended);
              passed = rw (between-opposite T i j early far) (spells-opposite (between T i j) middle a.before.passed);
            };
        ended = rw (segment-opposite T i near) (some-opposite (segment T i) (suffix-opposite front) a.before.begun);
      }

  -- an occurrence from i to j, read in the opposite text
  turned-over : Occurs P T i j → Occurs (opposite P) (opposite_text T) (facing T j) (facing T i)
  turned-over (inl x) =
      let e : i ≡ j = x.0 in
      let here : Some (segment T i) (Inside P) = rw (← e) at x.1 in
      inl (omega arith, rw (segment-opposite T i near) (some-opposite (segment T i) (inside-opposite P) here))
  turned-over (inr x) = inr (omega (arith, x.0), across-opposite x.0 x.1)

-- the opposite of P has an occurrence from i to j of T exactly when P has one from n - 1 - j to n - 1 - i of the opposite of T
pub occurs-opposite : (P : List ℕ) (T : Text) (i j : ℕ) → i < length T → j < length T
    → Occurs (opposite P) T i j ↔ Occurs P (opposite_text T) (facing T j) (facing T i)
occurs-opposite P T i j near far = (
  λ o. rw (opposite-twice P) at (turned-over (opposite P) T i j near far o),
  λ o. back (turned-over P (opposite_text T) (facing T j) (facing T i) (omega (arith, long)) (omega (arith, long)) o),
)
  where
    long : length (opposite_text T) ≡ length T
    long = text-length T

    first : facing (opposite_text T) (facing T i) ≡ i
    first = omega (arith, long)

    last : facing (opposite_text T) (facing T j) ≡ j
    last = omega (arith, long)

    back : Occurs (opposite P) (opposite_text (opposite_text T)) (facing (opposite_text T) (facing T i)) (facing (opposite_text T) (facing T j))
        → Occurs (opposite P) T i j
    back o = rw (text-twice T, first, last) at o

-- an occurrence that ends in j is one from some segment up to j, in which it begins
pub ends-occurs : (P : List ℕ) (T : Text) (j : ℕ) → EndsIn P T j ↔ ((i : ℕ) × (i ≤ j) × Occurs P T i j)
ends-occurs P T j = (from, λ x. to x.0 x.2)
  where
    from : EndsIn P T j → (i : ℕ) × (i ≤ j) × Occurs P T i j
    from (inl h) = (j, le_refl j, inl (refl, h))
    from (inr x) = (x.0, omega (arith, x.1), inr (x.1, x.2))

    to : (i : ℕ) → Occurs P T i j → EndsIn P T j
    to i (inl x) = inl x.1
    to i (inr x) = inr (i, x.0, x.1)

-- an occurrence ends in a segment of the text
occurs-within : (P : List ℕ) (T : Text) (i j : ℕ) → Occurs P T i j → (i ≤ j) × (j < length T)
occurs-within P T i j (inl x) = (omega (arith, x.0), listed-within T j (Inside P) x.1)
occurs-within P T i j (inr x) = (omega (arith, x.0), listed-within T j (Prefix x.1.last) x.1.ended)

-- a segment is where an occurrence of the opposite ends exactly when, in the opposite text, an occurrence of P begins there
pub ends-opposite : (P : List ℕ) (T : Text) (j : ℕ) → j < length T → EndsIn (opposite P) T j ↔ BeginsIn P (opposite_text T) (facing T j)
ends-opposite P T j l = (λ h. begins ((ends-occurs (opposite P) T j).0 h), λ b. ends b.0 b.1)
  where
    begins : (i : ℕ) × (i ≤ j) × Occurs (opposite P) T i j → BeginsIn P (opposite_text T) (facing T j)
    begins x = (facing T x.0, (occurs-opposite P T x.0 j (omega (arith, x.1)) l).0 x.2)

    ends : (k : ℕ) → Occurs P (opposite_text T) (facing T j) k → EndsIn (opposite P) T j
    ends k o =
        let w = occurs-within P (opposite_text T) (facing T j) k o in
        let short : k < length T = omega (arith, w.1, text-length T) in
        let near : facing T k < length T = omega arith in
        let same : facing T (facing T k) ≡ k = omega arith in
        let up : facing T k ≤ j = omega (arith, w.0) in
        let there : Occurs P (opposite_text T) (facing T j) (facing T (facing T k)) = rw same o in
        (ends-occurs (opposite P) T j).1 (facing T k, up, (occurs-opposite P T (facing T k) j near l).1 there)

-- mark j of the opposite is 1 exactly when, in the opposite text, an occurrence of P begins in that segment
pub marks-opposite : (P : List ℕ) (T : Text) (j : ℕ) → 0 < length P → j < length T
    → (get_or (marks (opposite P) T) j 0 ≡ 1) ↔ BeginsIn P (opposite_text T) (facing T j)
marks-opposite P T j some l =
    let long : 0 < length (opposite P) = omega (arith, opposite-length P) in
    Iff.trans (marks-ends (opposite P) T j long) (ends-opposite P T j l)
