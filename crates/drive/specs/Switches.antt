use Rattle.std.specs.Prelude.{ℕ, ◌/◌, if◌then◌else◌, Some, None, Option, nat_lt}
use Rattle.drive.specs.Geometry.{Geometry}

-- the write-protect switch of a track, and none of an absent one
abbrev pub switch_at : Geometry → ℕ → Option ℕ
switch_at g t = if nat_lt t g.shape.tracks then Some (t / g.shape.tracks_per_switch) else None
