use Rattle.std.proofs.Common.{◌≡◌}
use Rattle.rad.proofs.bench.Bench.show_sectors.Given as goal

abbrev pub invariant-loop-number : goal.invariant-loop-number
invariant-loop-number g l = (l.self.memory.ghost_name ≡ l.initial.self.memory.ghost_name)
