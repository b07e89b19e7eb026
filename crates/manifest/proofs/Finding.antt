-- What the first line from a place on that is no comment says of all lines from there on.
use Prim.Native.Nat.{ℕ, zero, suc, ◌+◌, ◌≤◌, ◌<◌}
use native.Mathlib.Omega.{arith}
use native.Mathlib.Decide.{dec_lt}
use mathlib.Core.Path.{◌≡◌, refl, sym, ap, ◌∙◌}
use mathlib.Core.Logic.{by_cases}
use mathlib.Core.Bool.{true, false, true≢false}
use mathlib.Core.List.{List, [], ◌∷◌}
use lib.ListN.{length}
use Rattle.std.proofs.Common.{Option, Some, None, Result, Ok, Err, is_err}
use Rattle.manifest.specs.Line.{line, line_of, Onward}
use Rattle.manifest.specs.Lines.{entry_at, entries_from, entries_of, wrong_from, or_other, next_of}
use Rattle.manifest.specs.Check.{counted, listed_of}
use Rattle.manifest.specs.declared.reading.Stretch.{Stretch}
use Rattle.manifest.specs.declared.reading.Wrong.{Wrong}
use Rattle.manifest.specs.declared.reading.Line.{Line}
use Rattle.manifest.specs.declared.checking.Unsound.{Unsound}
use Rattle.manifest.proofs.Entries.{line-none, Placed, placed}
use Rattle.manifest.proofs.Lines.{entries_none, entries-more, wrong-none, wrong-more, next-none, next_more}

-- a stretch's line: its entry is the first, and the others are those from the next line on; a wrong line: one is wrong
abbrev pub FoundSaid : List ℕ → ℕ → ℕ → Result (Option Stretch) Wrong → Type 0
FoundSaid m at next (Ok (Some s)) =
    (entries_from m at ≡ entry_at m s.start s.end ∷ entries_from m next) × (wrong_from m at ≡ wrong_from m next)
FoundSaid m at next (Ok None) = ⊥
FoundSaid m at next (Err w) = wrong_from m at ≡ true

-- the end: there is no entry, and no line is wrong
abbrev pub Found : List ℕ → ℕ → Option Line → Type 0
Found m at (Some l) = FoundSaid m at l.next l.said
Found m at None = (entries_from m at ≡ []) × (wrong_from m at ≡ false)

module _ (m : List ℕ) (at from : ℕ) (e : entries_from m at ≡ entries_from m from) (w : wrong_from m at ≡ wrong_from m from) where
  said_before : (next : ℕ) (said : Result (Option Stretch) Wrong) → FoundSaid m from next said → FoundSaid m at next said
  said_before next (Ok (Some s)) (a, b) = (e ∙ a, w ∙ b)
  said_before next (Ok None) h = h
  said_before next (Err x) h = w ∙ h

  -- it says the same from the place of a comment before it
  found_before : (l : Option Line) → Found m from l → Found m at l
  found_before (Some l) h = said_before l.next l.said h
  found_before None (a, b) = (e ∙ a, w ∙ b)

-- what the line there says, if what follows a comment is known
here_found :
    (m : List ℕ) (at next : ℕ) (said : Result (Option Stretch) Wrong) → line_of m at ≡ Some (line said next) →
    Found m next (next_of m next) → Found m at (or_other (line said next) said (next_of m next))
here_found m at next (Ok (Some s)) e h = (entries-more m at e, wrong-more m at e)
here_found m at next (Ok None) e h = found_before m at next (entries-more m at e) (wrong-more m at e) (next_of m next) h
here_found m at next (Err w) e h = wrong-more m at e

line_found :
    (m : List ℕ) (at n : ℕ) (l : Option Line) → line_of m at ≡ l → Placed at n l →
    ((next : ℕ) → at < next → Found m next (next_of m next)) → Found m at (next_of m at)
line_found m at n (Some l) e p h = rw (next_more m at e) (here_found m at l.next l.said e (h l.next p.1))
line_found m at n None e p h = absurd p

found_in : (k : ℕ) (m : List ℕ) (at : ℕ) → length m ≤ at + k → Found m at (next_of m at)
found_in zero m at l =
    let none : line_of m at ≡ None = sym (line-none m at (omega arith)) in
    rw (next-none m at none) (entries_none m at none, wrong-none m at none)
found_in (suc k) m at l =
    by_cases (dec_lt at (length m))
    (λ (here : at < length m).
    line_found m at (length m) (line_of m at) refl (placed m at here) (λ next on. found_in k m next (omega arith)))
    (λ (far : at < length m → ⊥).
    let none : line_of m at ≡ None = sym (line-none m at (omega arith)) in
    rw (next-none m at none) (entries_none m at none, wrong-none m at none))

pub found : (m : List ℕ) (at : ℕ) → Found m at (next_of m at)
found m at = found_in (length m) m at (omega arith)

-- the lines from `at` to `from` are comments
pub record Seeking (m : List ℕ) (at from : ℕ) : Type 0 where
  pub upto : at ≤ from
  pub same : next_of m at ≡ next_of m from

pub seeking-none : (m : List ℕ) (at : ℕ) → Seeking m at at
seeking-none m at = record { upto = omega arith; same = refl }

module _ {m : List ℕ} {at from : ℕ} (s : Seeking m at from) {found : Option Line} (is : found ≡ line_of m from) where
  pub seeking-end : found ≡ None → None ≡ next_of m at
  seeking-end e = sym (s.same ∙ next-none m from (sym is ∙ e))

  module _ {l : Line} (e : found ≡ Some l) (on : Onward from (length m) found) where
    there : line_of m from ≡ Some l
    there = sym is ∙ e

    pub seeking-next : (from < l.next) × (l.next ≤ length m)
    seeking-next = let o : Onward from (length m) (Some l) = rw e at on in (o.1, o.2)

    pub seeking-on : l.said ≡ Ok None → Seeking m at l.next
    seeking-on c =
        record {
          upto = omega (arith, s.upto, seeking-next);
          same = s.same ∙ next_more m from there ∙ ap (λ (said : Result (Option Stretch) Wrong). or_other l said (next_of m l.next)) c;
        }

    pub seeking-found :
        {said : Result (Option Stretch) Wrong} → l.said ≡ said → or_other l said (next_of m l.next) ≡ Some l →
        (Some l ≡ next_of m at) × Onward at (length m) (Some l)
    seeking-found says own =
        let o : Onward from (length m) (Some l) = rw e at on in (
          sym
              (s.same ∙ next_more m from there ∙ ap (λ (said : Result (Option Stretch) Wrong). or_other l said (next_of m l.next)) says ∙ own),
          (o.0, omega (arith, s.upto, seeking-next), o.2),
        )

-- what a line says, from its two parts
pub said-whole : {said : Result (Option Stretch) Wrong} {x y : Option Stretch} → said ≡ Ok x → x ≡ y → said ≡ Ok y
said-whole e f = rw f at e

-- `count` stretches stand before the place `at`
pub record Listing (m : List ℕ) (at count : ℕ) : Type 0 where
  pub upto : at ≤ length m
  pub few : count ≤ at
  pub all : length (entries_of m) ≡ count + length (entries_from m at)
  pub right : wrong_from m 0 ≡ wrong_from m at

pub listing_none : (m : List ℕ) → Listing m 0 0
listing_none m = record { upto = omega arith; few = omega arith; all = omega arith; right = refl }

pub counted-some : (n : ℕ) → (n ≡ 0 → ⊥) → Ok n ≡ counted n
counted-some zero h = absurd (h refl)
counted-some (suc n) h = refl

module _ {m : List ℕ} {at count : ℕ} (s : Listing m at count) {l : Option Line} (is : l ≡ next_of m at) where
  next-found : {k : Option Line} → l ≡ k → Found m at k
  next-found e = rw (sym e ∙ is) (found m at)

  module _ {line : Line} (e : l ≡ Some line) (on : Onward at (length m) l) where
    pub listing-next : (at < line.next) × (line.next ≤ length m)
    listing-next = let o : Onward at (length m) (Some line) = rw e at on in (o.1, o.2)

    pub listing-more : is_err line.said ≡ false → Listing m line.next (count + 1)
    listing-more right = go line.said right (next-found e)
      where
        go : (said : Result (Option Stretch) Wrong) → is_err said ≡ false → FoundSaid m at line.next said → Listing m line.next (count + 1)
        go (Ok (Some x)) r f =
            let rest : length (entries_from m at) ≡ suc (length (entries_from m line.next)) = ap length f.0 in
            record {
              upto = listing-next.1;
              few = omega (arith, s.few, listing-next);
              all = omega (arith, s.all, rest);
              right = s.right ∙ f.1;
            }
        go (Ok None) r f = absurd f
        go (Err w) r f = absurd (true≢false r)

    pub listing-wrong : is_err line.said ≡ true → Err Unsound.Wrong ≡ listed_of m
    unfolding listed_of
    listing-wrong wrong = rw (s.right ∙ go line.said wrong (next-found e)) refl
      where
        go : (said : Result (Option Stretch) Wrong) → is_err said ≡ true → FoundSaid m at line.next said → wrong_from m at ≡ true
        go (Ok x) r f = absurd (true≢false (sym r))
        go (Err w) r f = f

  pub listing-end : l ≡ None → {r : Result ℕ Unsound} → r ≡ counted count → r ≡ listed_of m
  unfolding listed_of
  listing-end e {r} h =
      let f = next-found e in
      let n : length (entries_of m) ≡ count = omega (arith, s.all, ap length f.0) in
      h ∙ rw (s.right ∙ f.1, n) refl
