-- When a night is clear, from what it has come to.
use Prim.Native.Nat.{ℕ, min}
use mathlib.Core.Path.{◌≡◌, refl}
use mathlib.Core.Bool.{Bool, true, false, cond, ◌&&◌}
use mathlib.Core.List.{List}
use Rattle.std.proofs.Common.{Option, Some, None, Result, Ok, Err, is_some}
use Rattle.std.specs.Option.{option_or}
use Rattle.std.specs.Result.{result_and}
use Rattle.desk_list.specs.declared.checking.Unsound.{Unsound}
use Rattle.desk_list.specs.Lines.{most}
use Rattle.manifest.specs.Check.{counts_stand}
use Rattle.manifest.specs.declared.checking.Unsound as Text
use Rattle.desk_night.specs.Standings.{some_end, all_end}
use Rattle.desk_night.specs.Night.{list_trouble, is_over}
use Rattle.desk_night.specs.TextTrouble.{text_trouble}
use Rattle.desk_night.specs.Ending.{is_left, vouched, found, unless_in, ending}
use Rattle.desk_night.specs.declared.trouble.Trouble.{Trouble}
use Rattle.desk_night.specs.declared.night.Night.{Night}
use Rattle.desk_night.specs.declared.ending.Verdict.{Verdict}

-- a list and a manifest with which there is no trouble
pub list-calm : (c : Result ℕ Unsound) → list_trouble c ≡ None → (n : ℕ) × (c ≡ Ok n)
list-calm (Ok n) e = (n, refl)
list-calm (Err unsound) e = absurd cc

pub text-calm : (c : Result ℕ Text.Unsound) → text_trouble c ≡ None → (n : ℕ) × (c ≡ Ok n)
text-calm (Ok n) e = (n, refl)
text-calm (Err unsound) e = absurd cc

-- the first of two troubles is none exactly if both are
pub neither : (t u : Option Trouble) → option_or t u ≡ None → (t ≡ None) × (u ≡ None)
neither None u e = (refl, e)
neither (Some t) u e = absurd cc

module _ (m : List ℕ) (x : Night) where
  -- what is asked of a night that is to be clear
  pub record Cleared : Type 0 where
    pub quiet : x.trouble ≡ None
    pub own : vouched m x ≡ Ok tt
    pub none : some_end (min x.count most) x.standings ≡ false

  cleared_by : (t : Option Trouble) (b d : Bool) (v : Result (Unit {0}) Trouble) → x.trouble ≡ t → vouched m x ≡ v
      → some_end (min x.count most) x.standings ≡ d
      → unless_in t (cond b (Ok Verdict.Held) (result_and v (Ok (cond d Verdict.Held Verdict.Clear)))) ≡ Ok Verdict.Clear → Cleared
  cleared_by (Some t) b d v f g h e = absurd cc
  cleared_by None true d v f g h e = absurd cc
  cleared_by None false d (Err t) f g h e = absurd cc
  cleared_by None false true (Ok u) f g h e = absurd cc
  cleared_by None false false (Ok tt) f g h e = record { quiet = f; own = g; none = h }

  pub ending-clear : ending m x ≡ Ok Verdict.Clear → Cleared
  unfolding ending found
  ending-clear e = cleared_by x.trouble (is_over x) _ (vouched m x) refl refl refl e

  pub clear-ending : Cleared → all_end (min x.count most) x.standings ≡ false → ending m x ≡ Ok Verdict.Clear
  unfolding ending found is_over vouched
  clear-ending c e = rw (c.quiet, e, c.own, c.none) (first_by x.first)
    where
      first_by : (b : Bool) → ◌≡◌ {A = Result Verdict Trouble} (cond (b && false) (Ok Verdict.Held) (Ok Verdict.Clear)) (Ok Verdict.Clear)
      first_by true = refl
      first_by false = refl

  -- what a manifest asks
  -- what is said where a stretch is left, and where the counts are right
  abbrev said : Bool → Bool → Result (Unit {0}) Trouble
  said a b = cond a (Err Trouble.Missing) (cond b (Ok tt) (Err Trouble.Counts))

  stands_by : (a b : Bool) → is_left m x.at ≡ a → counts_stand m x.stretches x.segments x.bytes ≡ b
      → said a b ≡ Ok tt → (is_left m x.at ≡ false) × (counts_stand m x.stretches x.segments x.bytes ≡ true)
  stands_by true b f g e = absurd cc
  stands_by false true f g e = (f, g)
  stands_by false false f g e = absurd cc

  pub vouched-stands : is_some x.text ≡ true → vouched m x ≡ Ok tt
      → (is_left m x.at ≡ false) × (counts_stand m x.stretches x.segments x.bytes ≡ true)
  unfolding vouched
  vouched-stands v e = stands_by (is_left m x.at) (counts_stand m x.stretches x.segments x.bytes) refl refl (rw v at e)

  pub stands-vouched : (is_some x.text ≡ true → (is_left m x.at ≡ false) × (counts_stand m x.stretches x.segments x.bytes ≡ true))
      → vouched m x ≡ Ok tt
  unfolding vouched
  stands-vouched h = go (is_some x.text) refl
    where
      go : (v : Bool) → is_some x.text ≡ v
          → cond v (said (is_left m x.at) (counts_stand m x.stretches x.segments x.bytes)) (Ok tt) ≡ Ok tt
      go true e = rw ((h e).0, (h e).1) refl
      go false e = refl
