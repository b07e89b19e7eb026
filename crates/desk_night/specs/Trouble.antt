-- What is wrong with a list, a manifest or a stretch, as a trouble of the night.
use Rattle.desk_list.specs.declared.checking.Unsound as OfList
use Rattle.manifest.specs.declared.checking.Unsound as Text
use Rattle.desk_night.specs.declared.trouble.Trouble.{Trouble}

abbrev pub of_list : OfList.Unsound → Trouble
of_list OfList.Unsound.Wrong = Trouble.List
of_list OfList.Unsound.Empty = Trouble.Empty
of_list OfList.Unsound.Many = Trouble.Many

abbrev pub of_text : Text.Unsound → Trouble
of_text Text.Unsound.Foreign = Trouble.Foreign
of_text Text.Unsound.Altered = Trouble.Altered
of_text Text.Unsound.Wrong = Trouble.Line
of_text Text.Unsound.Empty = Trouble.NoStretch
