use Rattle.std.specs.Prelude.{ℕ, List, ◌++◌, codes}
use Rattle.std.specs.Fmt.{decimal}
use Rattle.drive.specs.declared.place.Place.{Place}

-- what is printed of a place
abbrev pub place_words : Place → List ℕ
place_words p = codes "(" ++ decimal p.track ++ codes ", " ++ decimal p.sector ++ codes ")"
