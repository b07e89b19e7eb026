-- A row of calls between the beginning of a night and its end.
use Rattle.std.specs.Prelude.{ℕ, ◌≡◌, List, [], ◌∷◌}
use Rattle.digest.specs.Blake2b.{blake2b256}
use Rattle.manifest.specs.Lines.{Entry}
use Rattle.manifest.specs.Written.{hex_of}
use Rattle.desk_night.specs.Night.{overing, missing}
use Rattle.desk_night.specs.declared.night.Night.{Night}

-- a stretch is handed in, or could not be read
pub data Event : Type 0 where
  handed : List ℕ → Event
  unread : Event

-- the night after these calls
unfoldable pub night_after : List ℕ → List ℕ → Night → List Event → Night
night_after list m x [] = x
night_after list m x (handed s ∷ es) = night_after list m (overing list m s x) es
night_after list m x (unread ∷ es) = night_after list m (missing x) es

-- these are the stretches of these entries: as many, and each with the digest of its own
unfoldable pub Vouched : List Entry → List (List ℕ) → Type 0
Vouched [] [] = Unit {0}
Vouched [] (s ∷ ss) = ⊥
Vouched (e ∷ es) [] = ⊥
Vouched (e ∷ es) (s ∷ ss) = (e.digest ≡ hex_of (blake2b256 s)) × Vouched es ss
