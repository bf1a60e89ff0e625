use Rattle.std.proofs.Common.{[], ◌∷◌, refl}
use Rattle.configuration.specs.declared.faults.Key.TheVariants.{Authority, Prefix, Upstream}
use Rattle.configuration.proofs.reading.read_route.Goals as goal

pub returns-in_default-clause-err : goal.returns-in_default-clause-err
returns-in_default-clause-err c = record { before = []; after = Prefix ∷ Upstream ∷ []; parts = refl; right = tt; wrong = λ r. c.in_default.ensures r.0 r.1 }

pub returns-in_default-prefix_in-clause-err : goal.returns-in_default-prefix_in-clause-err
returns-in_default-prefix_in-clause-err c =
    record { before = Authority ∷ []; after = Upstream ∷ []; parts = refl; right = ((c.in-Some.authority.now, c.in-Some.ensures), tt); wrong = λ r. c.in_default-prefix_in.ensures r.0 r.1 }

pub returns-in_default-upstream_in-clause-err : goal.returns-in_default-upstream_in-clause-err
returns-in_default-upstream_in-clause-err c =
    record {
      before = Authority ∷ Prefix ∷ [];
      after = [];
      parts = refl;
      right = ((c.in-Some.authority.now, c.in-Some.ensures), ((c.in-Some-prefix_in.prefix.now, c.in-Some-prefix_in.ensures), tt));
      wrong = λ r. c.in_default-upstream_in.ensures r.0 r.1;
    }
