-- Laws of the call: what the survey says of the room that is lent.
use Prim.Native.Nat.{ℕ, ◌≤◌}
use mathlib.Core.Path.{◌≡◌, ◌∙◌}
use mathlib.Core.List.{List}
use lib.ListN.{length}
use Rattle.text.specs.Letter.{meant}
use Rattle.layout.specs.Bytes.{over}
use Rattle.layout.specs.Encoding.{encode}
use Rattle.stretch.specs.Answers.{told_written}
use Rattle.writer.specs.Answers.{written}
use Rattle.layout.specs.Bytes.{left_by}
use Rattle.stretch.specs.declared.writing.Written.TheVariants.{Bytes}
use Rattle.vcf.specs.Building.{window_text, building}
use Rattle.vcf.specs.Surveys.{Built}

pub build-leaves :
    {file window : List ℕ} {p : ℕ} {name : List ℕ} {bytes segments start kept : ℕ} →
    Built file window p name bytes segments start kept → (d after : List ℕ) → bytes ≤ length d →
    after ≡ over d 0 (encode (window_text (meant window) p file)) →
    (told_written (Bytes bytes) ≡ written (building file window p name (length d)))
    × (after ≡ left_by encode (building file window p name (length d)) d)
build-leaves b d after m x = (rw (b.whole (length d) m, b.size), x ∙ rw (b.whole (length d) m))
