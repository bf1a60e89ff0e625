use Rattle.std.proofs.Common.{◌≡◌, List, [], ◌∷◌, ◌++◌, take, Some}
use Rattle.model.specs.Logs.{Step}
use Rattle.effects.specs.Views.{outputs_of}
use Rattle.driver.specs.Calls.{Call, Along, Moves, AreWhole, AppliesTo, told}
use Rattle.driver.specs.Worlds.{with_outputs}
use Rattle.driver.proofs.services.apply_all.Given as goal

abbrev pub invariant-loop-output : goal.invariant-loop-output
invariant-loop-output g l = record {
  calls : g.W.World.calls l.world ≡ g.W.World.calls l.fn.world;
  failures : g.W.World.failures l.world ≡ g.W.World.failures l.fn.world;
  over : g.W.World.over l.world ≡ g.W.World.over l.fn.world;
  keeps_rooms : g.W.World.keeps_rooms l.world ≡ g.W.World.keeps_rooms l.fn.world;
  handed : g.W.World.handed l.world ≡ g.W.World.handed l.fn.world;
  hears_on : g.W.World.hears_idle_first l.fn.world → g.W.World.hears_idle_first l.world;
  log : (before : List Step) (step : Step) → g.W.World.log l.fn.world ≡ Some (before ++ step ∷ []) → g.W.World.log l.world ≡ Some (before ++ with_outputs step (outputs_of (take l.output-index l.outputs)) ∷ []);
  applies : (begun : g.row.W.Denot) (calls : List Call) (before : List Step) (step : Step)
      → Along (Moves g.W.World.moves g.W.World.hears_idle_first g.W.World.could_read g.W.World.heard_at g.W.World.looks (g.W.World.hears_idle_first begun)) begun calls l.fn.world → told calls ≡ Some (before ++ step ∷ [])
      → AppliesTo g.W.World.moves g.W.World.hears_idle_first g.W.World.could_read g.W.World.heard_at g.W.World.looks AreWhole begun calls (before ++ with_outputs step (outputs_of (take l.output-index l.outputs)) ∷ []) l.world;
}
