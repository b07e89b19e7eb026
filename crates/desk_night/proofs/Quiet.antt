-- A row of stretches that the search accepts and the manifest vouches for leads to no trouble.
use Prim.Native.Nat.{ℕ, ◌+◌, ◌≤◌, ◌<◌}
use native.Mathlib.Omega.{arith}
use mathlib.Core.Path.{◌≡◌, refl, sym, ap, subst, ◌∙◌}
use mathlib.Core.Bool.{Bool, true, false, true≢false}
use mathlib.Core.List.{List, [], ◌∷◌, map}
use lib.ListN.{length}
use Rattle.std.proofs.Common.{Option, Some, None, Result, Ok, Err, is_some}
use Rattle.text.specs.Refusal.{ok}
use Rattle.text.proofs.Outcomes.{ok-inj, after-met}
use Rattle.text.proofs.Strings.{eq-same}
use Rattle.digest.specs.Blake2b.{blake2b256}
use Rattle.desk_verdict.specs.declared.standing.Standing.{Standing}
use Rattle.manifest.specs.Lines.{digest_at, entries_from, wrong_from, next_of}
use Rattle.manifest.specs.Written.{hex_of}
use Rattle.manifest.specs.Check.{vouches}
use Rattle.manifest.specs.declared.reading.Line.{Line}
use Rattle.manifest.specs.declared.reading.Stretch.{Stretch}
use Rattle.manifest.specs.declared.reading.Wrong.{Wrong}
use Rattle.manifest.proofs.Finding.{FoundSaid, Found, found}
use Rattle.desk_night.specs.Standings.{standing_at}
use Rattle.desk_night.specs.Sweep.{moved, swept}
use Rattle.desk_night.specs.Night.{taken, overing}
use Rattle.desk_night.specs.Ending.{says_stretch, is_stretch, is_left}
use Rattle.desk_night.specs.Events.{handed, night_after, Vouched}
use Rattle.desk_night.specs.declared.night.Night.{Night}
use Rattle.desk_night.proofs.Rounds.{bases_at, rounds-calm}
use Rattle.desk_night.proofs.Nights.{NextIs, place-files, place-next, over-step}
use Rattle.desk_night.proofs.Runs.{moves, sought, taken-moved, taken-long}

-- the entries from a place on, and those of these stretches: none is wrong, and each has its digest
abbrev pub Ahead : List ℕ → ℕ → List (List ℕ) → Type 0
Ahead m at ss = (wrong_from m at ≡ false) × Vouched (entries_from m at) ss

-- where no stretch is ahead none is left
none_said : (m : List ℕ) (at next : ℕ) (said : Result (Option Stretch) Wrong) → FoundSaid m at next said → Vouched (entries_from m at) []
    → says_stretch said ≡ false
unfolding Vouched
none_said m at next (Ok (Some name)) f v = absurd (let z : ⊥ = rw f.0 at v in z)
none_said m at next (Ok None) f v = refl
none_said m at next (Err wrong) f v = refl

none_left : (m : List ℕ) (at : ℕ) (l : Option Line) → Found m at l → Vouched (entries_from m at) [] → is_stretch l ≡ false
none_left m at (Some line) f v = none_said m at line.next line.said f v
none_left m at None f v = refl

-- the line of the first stretch ahead is the next
module _ (m s : List ℕ) (ss : List (List ℕ)) (x : Night) where
  next-said : (next : ℕ) (said : Result (Option Stretch) Wrong) → next_of m x.at ≡ Some (record { said = said; next = next })
      → FoundSaid m x.at next said → Ahead m x.at (s ∷ ss) → (to : ℕ) × NextIs m s x to × Ahead m to ss
  unfolding Vouched vouches
  next-said next (Ok (Some name)) e f (right, v) =
      let (own, rest) = rw f.0 at v in (
        next,
        record { name = name; line = e; own = eq-same (digest_at m name.start) (hex_of (blake2b256 s)) own },
        (sym f.1 ∙ right, rest),
      )
  next-said next (Ok None) e f a = absurd f
  next-said next (Err wrong) e f (right, v) = absurd (true≢false (sym f ∙ right))

  next-ahead : (l : Option Line) → next_of m x.at ≡ l → Found m x.at l → Ahead m x.at (s ∷ ss)
      → (to : ℕ) × NextIs m s x to × Ahead m to ss
  unfolding Vouched
  next-ahead (Some line) e f a = next-said line.next line.said e f a
  next-ahead None e f (right, v) = absurd (let z : ⊥ = rw f.0 at v in z)

-- a stretch that is taken
record Goes (list m s : List ℕ) (ss : List (List ℕ)) (x : Night) : Type 0 where
  place : ℕ
  is : overing list m s x ≡ taken x list place s
  ahead : is_some x.text ≡ true → Ahead m place ss

goes : (list m s : List ℕ) (ss : List (List ℕ)) (x : Night) (v : Bool) → is_some x.text ≡ v → x.trouble ≡ None
    → (is_some x.text ≡ true → Ahead m x.at (s ∷ ss)) → Goes list m s ss x
goes list m s ss x true v c a =
    let (next, n, rest) = next-ahead m s ss x (next_of m x.at) refl (found m x.at) (a v) in
    record { place = next; is = sym (over-step list m s x (ap is_some c) refl (place-next m s x v n)); ahead = λ _. rest }
goes list m s ss x false v c a =
    record {
      place = x.at;
      is = sym (over-step list m s x (ap is_some c) refl (sym (place-files m s x v)));
      ahead = λ w. absurd (true≢false (sym w ∙ v));
    }

-- the sequences of a list can all be moved over stretches
abbrev pub Movable : List ℕ → Night → List (List ℕ) → Type 0
Movable list x ss =
    (i : ℕ) → i < length (sought list)
    → (z : Standing) × (moves x.first (bases_at (sought list) i) (standing_at x.standings i) ss ≡ ok z)

-- the night is without trouble, and the manifest has no further stretch
abbrev Ends : List ℕ → Bool → Night → Type 0
Ends m v y = (y.trouble ≡ None) × (v ≡ true → is_left m y.at ≡ false)

module _ (list m s : List ℕ) (ss : List (List ℕ)) (x : Night) (room : length (sought list) ≤ length x.standings)
    (h : Movable list x (s ∷ ss)) (at : ℕ) where
  taken-calm : (taken x list at s).trouble ≡ None
  unfolding taken swept moves
  taken-calm =
      rounds-calm x.first s 0 (sought list) (record { standings = x.standings; trouble = None }) refl
      (λ i l.
      let (z, met) = h i l in
      let (y, here, more) =
      after-met (moved x.first (bases_at (sought list) i) (standing_at x.standings i) s)
      (λ u. moves x.first (bases_at (sought list) i) u ss) z met in
      let up : 0 + i ≡ i = omega arith in
      (y, ap (λ (j : ℕ). moved x.first (bases_at (sought list) i) (standing_at x.standings j) s) up ∙ here))

  taken-movable : Movable list (taken x list at s) ss
  unfolding taken moves
  taken-movable i l =
      let (z, met) = h i l in
      let (y, here, more) =
      after-met (moved x.first (bases_at (sought list) i) (standing_at x.standings i) s)
      (λ u. moves x.first (bases_at (sought list) i) u ss) z met in
      let same : y ≡ standing_at (taken x list at s).standings i = ok-inj (sym here ∙ taken-moved list m s x at room taken-calm i l) in
      (z, ap (λ (u : Standing). moves x.first (bases_at (sought list) i) u ss) (sym same) ∙ more)

module _ (list m : List ℕ) where
  pub quiet : (ss : List (List ℕ)) (x : Night) → x.trouble ≡ None → length (sought list) ≤ length x.standings
      → Movable list x ss → (is_some x.text ≡ true → Ahead m x.at ss) → Ends m (is_some x.text) (night_after list m x (map handed ss))
  unfolding night_after is_left taken
  quiet [] x c room h a = (c, λ v. none_left m x.at (next_of m x.at) (found m x.at) (a v).1)
  quiet (s ∷ ss) x c room h a =
      let g : Goes list m s ss x = goes list m s ss x (is_some x.text) refl c a in
      let y : Night = taken x list g.place s in
      let here : y.trouble ≡ None = taken-calm list m s ss x room h g.place in
      let long : length y.standings ≡ length x.standings = taken-long list m s x g.place room here in
      let rest : length (sought list) ≤ length y.standings = omega (arith, room, long) in
      let same : night_after list m (overing list m s x) (map handed ss) ≡ night_after list m y (map handed ss) =
      ap (λ (z : Night). night_after list m z (map handed ss)) g.is in
      subst (λ (z : Night). Ends m (is_some x.text) z) (sym same)
      (quiet ss y here rest (taken-movable list m s ss x room h g.place) g.ahead)
