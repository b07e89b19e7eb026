-- What a window and its records allow, with nothing computed.
use Rattle.std.specs.Prelude.{ℕ, ◌-◌, ◌≡◌, List, [], ◌∷◌, ◌++◌, drop}
use Rattle.text.specs.Occurrence.{Some}
use Rattle.layout.specs.Bytes.{part}
use Rattle.vcf.specs.Records.{position, reference, alts, behind}

-- h is the window from base `from` on, where each of these records has its REF or one of its ALT, and every other base is the window's
abbrev pub Haplotype : List ℕ → ℕ → ℕ → List (List ℕ) → List ℕ → Type 0
Haplotype w p from [] h = h ≡ drop from w
Haplotype w p from (l ∷ ls) h =
    Some (reference l ∷ alts l)
    (λ s. (u : List ℕ) × Haplotype w p (behind l - p) ls u × (h ≡ part w from (position l - p - from) ++ (s ++ u)))
