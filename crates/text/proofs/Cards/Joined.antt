-- Two cards joined: when that is accepted, and that the joined card is well formed.
use Prim.Native.Nat.{ℕ, ◌+◌, ◌≤◌, ◌<◌}
use native.Mathlib.Nat.{add_assoc}
use borrow.Author.Tests.{le-leb}
use mathlib.Core.Path.{◌≡◌, refl, sym, ap, ◌∙◌, subst, fun_ext}
use mathlib.Core.Logic.{◌↔◌, inl}
use mathlib.Core.Bool.{true}
use mathlib.Core.List.{List, map, map-map}
use lib.Dec.{leb}
use lib.ListN.{length-map}
use Rattle.text.specs.Refusal.{ok}
use Rattle.text.specs.Card.{Row, Card, most_segments, row, through}
use Rattle.text.specs.Card.{well_formed, later, earliest, follow, onward, joined, same_pattern, join}
use Rattle.text.proofs.Tests.{le_test, eq_test, same_test, and-test}
use Rattle.text.proofs.Outcomes.{demand-met}
use Rattle.text.proofs.Ends.{EndOf, end-behind, end_before, min-is, earliest-is}
use Rattle.text.proofs.Rows.{union-lt, union-fresh, through-dead, through-through, row-map}
use Rattle.text.proofs.Cards.Formed.{LiveRow, WellFormed, well}

-- three cards in a row, joined in either order
pub joined-assoc : (a b c : Card) → a.m ≡ b.m → joined (joined a b) c ≡ joined a (joined b c)
unfolding joined
joined-assoc a b c e =
    λ i.
    record {
      pattern = a.pattern;
      m = a.m;
      segments = add_assoc a.segments b.segments c.segments i;
      rows = rows i;
    }
  where
    rows : map (through a.m (a.segments + b.segments) c.rows) (map (through a.m a.segments b.rows) a.rows)
        ≡ map (through a.m a.segments (map (through b.m b.segments c.rows) b.rows)) a.rows
    rows =
        map-map (through a.m (a.segments + b.segments) c.rows) (through a.m a.segments b.rows) a.rows
        ∙ ap (λ (f : Row → Row). map f a.rows) (fun_ext (through-through a.m a.segments b.segments b.rows c.rows))
        ∙ ap (λ (m : ℕ). map (through a.m a.segments (map (through m b.segments c.rows) b.rows)) a.rows) e

-- a live row stays live with live rows after it
live-through : (m n k q : ℕ) (r : Row) (next : List Row) → 0 < m
    → LiveRow m n q r
    → ((p : ℕ) → p < m → LiveRow m k p (row next p))
    → LiveRow m (n + k) q (through m n next r)
unfolding follow onward
live-through m n k q r next some w h =
    record {
      small = union-lt r.exit (λ p. (row next p).exit) m;
      fresh = union-fresh r.exit (λ p. (row next p).exit) m some (λ p l. (h p l).fresh) ∙ w.fresh;
      ends = min-is (EndOf (n + k)) r.first (later n (earliest r.exit (λ p. (row next p).first) m))
          (end-behind n k r.first w.ends)
          (end_before n k _ (earliest-is (EndOf k) r.exit (λ p. (row next p).first) m (inl refl) (λ p l. (h p l).ends)));
    }

-- two cards that can be joined
pub record Joinable (a b : Card) : Type 0 where
  pub left : WellFormed a
  pub right : WellFormed b
  pub sizes : a.m ≡ b.m
  pub patterns : a.pattern ≡ b.pattern
  pub fits : a.segments + b.segments ≤ most_segments

pattern-test : (a b : Card) → (same_pattern a b ≡ true) ↔ ((a.m ≡ b.m) × (a.pattern ≡ b.pattern))
unfolding same_pattern
pattern-test a b = and-test (eq_test a.m b.m) (same_test a.pattern b.pattern)

-- row q of a joined card
pub joined-row : (a b : Card) (q : ℕ) → row (joined a b).rows q ≡ through a.m a.segments b.rows (row a.rows q)
unfolding joined
joined-row a b q =
    row-map (through a.m a.segments b.rows) a.rows q (through-dead a.m a.segments b.rows)

pub joinable-well : (a b : Card) → Joinable a b → WellFormed (joined a b)
unfolding joined
joinable-well a b j =
    record {
      some = j.left.some;
      short = j.left.short;
      bytes = j.left.bytes;
      bases = j.left.bases;
      count = j.fits;
      full = length-map a.rows on ∙ j.left.full;
      live = λ q l. rw (joined-row a b q) (live q l);
      idle = λ q l. joined-row a b q ∙ ap on (j.left.idle q l) ∙ through-dead a.m a.segments b.rows;
    }
  where
    on : Row → Row
    on = through a.m a.segments b.rows

    next : (p : ℕ) → p < a.m → LiveRow a.m b.segments p (row b.rows p)
    next = subst (λ (m : ℕ). (p : ℕ) → p < m → LiveRow m b.segments p (row b.rows p)) (sym j.sizes) j.right.live

    live : (q : ℕ) → q < a.m → LiveRow a.m (a.segments + b.segments) q (on (row a.rows q))
    live q l =
        live-through a.m a.segments b.segments q (row a.rows q) b.rows j.left.some (j.left.live q l) next

pub joined-well : (a b : Card) → well_formed a ≡ true → well_formed b ≡ true → same_pattern a b ≡ true
    → a.segments + b.segments ≤ most_segments → well_formed (joined a b) ≡ true
joined-well a b w v p l =
    let s = (pattern-test a b).0 p in
    let j : Joinable a b = record { left = (well a).0 w; right = (well b).0 v; sizes = s.0; patterns = s.1; fits = l } in
    (well (joined a b)).1 (joinable-well a b j)

-- joining is accepted exactly when the cards can be joined
pub join-ok : (a b : Card) → Joinable a b → join a b ≡ ok (joined a b)
unfolding join
join-ok a b j =
    rw ((well a).1 j.left, (well b).1 j.right, (pattern-test a b).1 (j.sizes, j.patterns), le-leb _ most_segments j.fits)

pub join-met : (a b c : Card) → join a b ≡ ok c → Joinable a b
unfolding join
join-met a b c e =
    let left = demand-met (well_formed a) 11 0 _ c e in
    let right = demand-met (well_formed b) 11 1 _ c left.1 in
    let pattern = demand-met (same_pattern a b) 12 0 _ c right.1 in
    let count = demand-met (leb (a.segments + b.segments) most_segments) 13 0 _ c pattern.1 in
    let s = (pattern-test a b).0 pattern.0 in
    record {
      left = (well a).0 left.0;
      right = (well b).0 right.0;
      sizes = s.0;
      patterns = s.1;
      fits = (le_test (a.segments + b.segments) most_segments).0 count.0;
    }
