-- Laws of what a line says, test by test.
use Prim.Native.Nat.{ℕ, ◌+◌, ◌-◌, ◌≤◌, ◌<◌}
use native.Mathlib.Omega.{arith}
use native.Mathlib.Decide.{dec_lt}
use mathlib.Core.Path.{◌≡◌, refl, sym, ap, ◌∙◌}
use mathlib.Core.Logic.{by_cases}
use mathlib.Core.Bool.{Bool, true, false, cond, true≢false}
use mathlib.Core.List.{List}
use borrow.Author.Tests.{le-leb, lt-leb}
use Rattle.std.proofs.Common.{Option, Some, None}
use lib.ListN.{length, take, drop, length-take, length-drop, drop_of_length-le}
use Rattle.text.specs.Letter.{every, first_not}
use Rattle.text.specs.Compare.{same, from_to}
use Rattle.text.proofs.Letters.{first-le}
use Rattle.text.proofs.Truth.{and-false}
use Rattle.text.proofs.Strings.{part_end}
use Rattle.manifest.specs.Kinds.{in_line, hex_digit, is_name}
use Rattle.manifest.specs.Line.{blanks, is_comment, is_entry, comment, entry, wrong, said_by, line_to, end_from, line_of, Inside, Onward}
use Rattle.manifest.specs.declared.reading.Line.{Line}

module _ (l : List ℕ) where
  pub entry-short : length l ≤ 66 → false ≡ is_entry l
  unfolding is_entry is_name
  entry-short few =
      sym (rw (drop_of_length-le l few, and-false (same (take 2 (drop 64 l)) blanks)) (and-false (every hex_digit (take 64 l))))

  module _ {d : Bool} (e : d ≡ every hex_digit (take 64 l)) where
    pub entry-no-digits : d ≡ false → false ≡ is_entry l
    unfolding is_entry
    entry-no-digits h = rw (← e, h) refl

    module _ (digits : d ≡ true) {b : Bool} (f : b ≡ same (take 2 (drop 64 l)) blanks) where
      pub entry-no-blanks : b ≡ false → false ≡ is_entry l
      unfolding is_entry
      entry-no-blanks h = rw (← e, digits, ← f, h) refl

      pub entry_named : b ≡ true → {n : Bool} → n ≡ is_name (take (length l - 66) (drop 66 l)) → n ≡ is_entry l
      unfolding is_entry
      entry_named h {n} g = rw (← e, digits, ← f, h) (g ∙ ap is_name (part_end l 66))

  -- a stretch's line has 67 bytes at least
  pub entry-long : is_entry l ≡ true → 66 < length l
  entry-long e =
      by_cases (dec_lt 66 (length l))
      (λ (h : 66 < length l). h)
      (λ (h : 66 < length l → ⊥).
      let few : length l ≤ 66 = omega arith in
      absurd (true≢false (sym e ∙ sym (entry-short few))))

-- the line that begins at a place
module _ (m : List ℕ) (at : ℕ) where
  pub line-none : length m ≤ at → None ≡ line_of m at
  unfolding line_of
  line-none h = rw (le-leb (length m) at h) refl

  module _ (here : at < length m) {n : ℕ} (is : n ≡ first_not in_line (take (length m - at) (drop at m))) where
    end_is : end_from m at ≡ at + n
    end_is = ap (λ (s : List ℕ). at + first_not in_line s) (sym (part_end m at)) ∙ ap (λ (k : ℕ). at + k) (sym is)

    to : line_of m at ≡ Some (line_to m at (at + n))
    unfolding line_of
    to = rw (lt-leb (length m) at here) (ap (λ (k : ℕ). Some (line_to m at k)) end_is)

    pub line-cut : length m ≤ at + n → Some (wrong (at + n)) ≡ line_of m at
    unfolding line_to
    line-cut h = sym (to ∙ rw (le-leb (length m) (at + n) h) refl)

    module _ (whole : at + n < length m) {c : Bool} (f : c ≡ is_comment (take (at + n - at) (drop at m))) where
      pub line-comment : c ≡ true → Some (comment (at + n + 1)) ≡ line_of m at
      unfolding line_to said_by
      line-comment h = sym (to ∙ rw (lt-leb (length m) (at + n) whole, ← f, h) refl)

      module _ (no : c ≡ false) {d : Bool} (g : d ≡ is_entry (take (at + n - at) (drop at m))) where
        pub line-entry : d ≡ true → Some (entry (at + 66) (at + n) (at + n + 1)) ≡ line_of m at
        unfolding line_to said_by
        line-entry h = sym (to ∙ rw (lt-leb (length m) (at + n) whole, ← f, no, ← g, h) refl)

        pub line_other : d ≡ false → Some (wrong (at + n + 1)) ≡ line_of m at
        unfolding line_to said_by
        line_other h = sym (to ∙ rw (lt-leb (length m) (at + n) whole, ← f, no, ← g, h) refl)

        -- the name begins inside
        pub line-room : d ≡ true → at + 66 < at + n
        line-room h =
            let some = entry-long (take (at + n - at) (drop at m)) (sym g ∙ h) in
            omega (arith, simp length-take at some)

-- a line, and the next one begins after it
abbrev pub Placed : ℕ → ℕ → Option Line → Type 0
Placed at n (Some l) = Inside n l.said × (at < l.next) × (l.next ≤ n)
Placed at n None = ⊥

said-placed : (at end n : ℕ) (l : List ℕ) → length l ≤ end - at → at ≤ end → end < n → Placed at n (Some (said_by at end l))
unfolding said_by
said-placed at end n l few a b = go (is_comment l) (is_entry l) refl
  where
    go :
        (c d : Bool) → is_entry l ≡ d →
        Placed at n (Some (cond c (comment (end + 1)) (cond d (entry (at + 66) end (end + 1)) (wrong (end + 1)))))
    go true d e = (tt, omega arith, omega arith)
    go false true e = ((omega (arith, entry-long l e), omega arith), omega arith, omega arith)
    go false false e = (tt, omega arith, omega arith)

-- where a line begins, one is
pub placed : (m : List ℕ) (at : ℕ) → at < length m → Placed at (length m) (line_of m at)
unfolding line_of line_to
placed m at h =
    let stop : ℕ = end_from m at in
    let inside : stop ≤ length m = omega (arith, first-le in_line (drop at m), length-drop at m) in
    let few : length (from_to m at stop) ≤ stop - at = omega (arith, length-take (stop - at) (drop at m)) in
    rw (lt-leb (length m) at h)
    (by_cases (dec_lt stop (length m))
    (λ (l : stop < length m).
    let upto : at ≤ stop = omega arith in
    rw (lt-leb (length m) stop l) (said-placed at stop (length m) (from_to m at stop) few upto l))
    (λ (l : stop < length m → ⊥).
    let far : length m ≤ stop = omega arith in
    let on : at < stop = omega arith in
    rw (le-leb (length m) stop far) (tt, on, inside)))

-- the same of any line, from a place before it
pub onward-from : (at from n : ℕ) (l : Option Line) → at ≤ from → Placed from n l → Onward at n l
onward-from at from n (Some l) h (a, c, d) = (a, omega arith, d)
onward-from at from n None h p = tt

pub onward-is : (m : List ℕ) (at : ℕ) {l : Option Line} → at < length m → l ≡ line_of m at → Onward at (length m) l
onward-is m at {l} h e = rw e (onward-from at at (length m) (line_of m at) (omega arith) (placed m at h))
