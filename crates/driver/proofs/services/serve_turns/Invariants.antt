use Rattle.std.proofs.Common.{◌≡◌, ◌+◌, List, [], Some, None, false}
use Rattle.model.specs.Logs.{Step}
use Rattle.model.specs.Setup.{Setup}
use Rattle.driver.specs.Calls.{Runs}
use Rattle.driver.specs.Services.{Begins, Goes}
use Rattle.driver.proofs.services.serve_turns.Given as goal

abbrev pub invariant-loop-turn : goal.invariant-loop-turn
invariant-loop-turn g l = record {
  calls : g.W.World.calls l.world ≡ g.W.World.calls l.fn.world + l._turn;
  failures : g.W.World.failures l.world ≡ g.W.World.failures l.fn.world;
  keeps_rooms : g.W.World.keeps_rooms l.world ≡ g.W.World.keeps_rooms l.fn.world;
  going : l.service.outcome ≡ None;
  runs : (setup : Setup) → Begins setup l.fn.service
      → Runs g.W.World.moves g.W.World.hears_idle_first g.W.World.could_read g.W.World.heard_at g.W.World.looks setup false l.fn.world l.world l.service.gateway l.service.rooms;
  log : (setup : Setup) → Begins setup l.fn.service → (before : List Step) → g.W.World.log l.fn.world ≡ Some before
      → Goes setup false l.service (g.W.World.log l.world) (g.W.World.handed l.world) before (g.W.World.handed l.fn.world);
}
