-- Laws of a night and of what it comes to, test by test.
use Prim.Native.Nat.{ℕ}
use mathlib.Core.Path.{◌≡◌, refl, sym, ap, ◌∙◌}
use mathlib.Core.Bool.{Bool, true, false, cond}
use mathlib.Core.List.{List}
use Rattle.std.proofs.Common.{Option, Some, None, Result, Ok, Err, is_some}
use Rattle.manifest.specs.Lines.{next_of}
use Rattle.manifest.specs.Check.{vouches}
use Rattle.manifest.specs.declared.reading.Line.{Line}
use Rattle.manifest.specs.declared.reading.Stretch.{Stretch}
use Rattle.manifest.specs.declared.reading.Wrong.{Wrong}
use Rattle.desk_night.specs.Night.{named_by, named, place_of, stepped, overing}
use Rattle.desk_night.specs.declared.trouble.Trouble.{Trouble}
use Rattle.desk_night.specs.declared.night.Night.{Night}

-- the place after a stretch in the manifest
module _ (m s : List ℕ) (x : Night) where
  pub place-files : is_some x.text ≡ false → Ok x.at ≡ place_of m s x
  unfolding place_of
  place-files v = rw v refl

  place-named : is_some x.text ≡ true → {l : Option Line} → next_of m x.at ≡ l → named m s l ≡ place_of m s x
  unfolding place_of
  place-named v is = ap (named m s) (sym is) ∙ rw v refl

  -- the manifest has the line of this stretch next
  pub record NextIs (next : ℕ) : Type 0 where
    pub name : Stretch
    pub line : next_of m x.at ≡ Some (record { said = Ok (Some name); next = next })
    pub own : vouches m name.start s ≡ true

  pub place-next : is_some x.text ≡ true → {next : ℕ} → NextIs next → place_of m s x ≡ Ok next
  place-next v n = sym (place-named v n.line) ∙ rw n.own refl

  pub next-place : is_some x.text ≡ true → {next : ℕ} → place_of m s x ≡ Ok next → NextIs next
  next-place v {next} e = go (next_of m x.at) refl (place-named v refl ∙ e)
    where
      own : (name : Stretch) (to : ℕ) (b : Bool) → next_of m x.at ≡ Some (record { said = Ok (Some name); next = to })
          → vouches m name.start s ≡ b → cond b (Ok to) (Err Trouble.Changed) ≡ Ok next → NextIs next
      own name to true f g h =
          let same : to ≡ next = cc in
          record { name = name; line = f ∙ ap (λ (n : ℕ). Some (record { said = Ok (Some name); next = n })) same; own = g }
      own name to false f g h = absurd cc

      by : (said : Result (Option Stretch) Wrong) (to : ℕ) → next_of m x.at ≡ Some (record { said = said; next = to })
          → named_by m s to said ≡ Ok next → NextIs next
      by (Ok (Some name)) to f h = own name to (vouches m name.start s) f refl h
      by (Ok None) to f h = absurd cc
      by (Err wrong) to f h = absurd cc

      go : (l : Option Line) → next_of m x.at ≡ l → named m s l ≡ Ok next → NextIs next
      go (Some line) f h = by line.said line.next f h
      go None f h = absurd cc

-- one stretch more
module _ (list m s : List ℕ) (x : Night) where
  pub over-trouble : is_some x.trouble ≡ true → x ≡ overing list m s x
  unfolding overing
  over-trouble e = rw e refl

  pub over-step : is_some x.trouble ≡ false → {r k : Result ℕ Trouble} → r ≡ place_of m s x → r ≡ k → stepped list s x k ≡ overing list m s x
  unfolding overing
  over-step e g is = ap (stepped list s x) (sym is ∙ g) ∙ rw e refl
