use Rattle.std.proofs.Common.{◌≡◌, ◌≤◌, [], length, take, refl, sym, ap, subst, ◌∙◌}
use Rattle.std.specs.Prelude.{◌≢◌}
use Rattle.std.proofs.lemmas.List.{append-nil}
use Rattle.response_texts.specs.HeadSizes.{field_octets}
use Rattle.h1_reader.specs.Views.{parts_of}
use Rattle.h1_reader.specs.Standing.{State}
use Rattle.h1_reader.specs.declared.reader.Place.TheVariants.{Past}
use Rattle.h1_reader.proofs.FaultLaws.{fails_breaks}
use Rattle.h1_reader.proofs.Steps.{hears_past, all_taken}
use Rattle.h1_reader.proofs.KeepSteps.{learns_past}
use Rattle.h1_reader.proofs.Ending.{uses_past, uses_told, all_told, all_learnt}
use Rattle.h1_reader.proofs.reader.Reader.feed.Goals as goal

pub returns-in-Err : goal.returns-in-Err
returns-in-Err c = record {
  ok = tt;
  used = tt;
  knows = tt;
  fault = λ n. fails_breaks c.args.self.now c.args.octets.now c.in-Err.fault (c.in-Err.ensures.fault n);
  kind = c.in-Err.ensures.fault;
  unchanged = c.in-Err.ensures.unchanged;
  broken = refl;
  again = λ fault broken. absurd (c.in_default.not-Broken fault (ap (λ (s : State). s.place) c.self.view_is ∙ broken));
  held = c.self-2.invariant.0;
  connections = c.self-2.invariant.1;
}

pub returns-in-Past-clause-ok : goal.returns-in-Past-clause-ok
returns-in-Past-clause-ok c = (
  [],
  sym (append-nil (parts_of c.args.pieces.now.items)),
  hears_past c.args.self.now c.args.octets.now (ap (λ (s : State). s.place) (sym c.self.view_is) ∙ c.in-Past.is),
  all_taken c.args.self.now c.args.self.now c.args.octets.now [] (hears_past c.args.self.now c.args.octets.now (ap (λ (s : State). s.place) (sym c.self.view_is) ∙ c.in-Past.is)),
)

pub returns-in-Past-clause-used : goal.returns-in-Past-clause-used
returns-in-Past-clause-used c = uses_past c.args.self.now c.args.octets.now (ap (λ (s : State). s.place) (sym c.self.view_is) ∙ c.in-Past.is)

pub returns-in_default-outcome : goal.returns-in_default-outcome
returns-in_default-outcome c =
    let never : c.args.self.now.place ≢ Past = λ past. c.in_default.not-Past (ap (λ (s : State). s.place) c.self.view_is ∙ past) in
    record {
      ok = all_told c.args.self.now c.tell-outcome.new.self c.args.octets.now (parts_of c.args.pieces.now.items) (parts_of c.tell-outcome.new.pieces.items) c.tell-outcome.result c.tell-outcome.ensures.ok c.tell-outcome.ensures.used;
      used = uses_told c.args.self.now c.tell-outcome.new.self c.args.octets.now (parts_of c.args.pieces.now.items) (parts_of c.tell-outcome.new.pieces.items) c.tell-outcome.result never c.tell-outcome.ensures.ok c.tell-outcome.ensures.used;
      knows = all_learnt c.args.self.now c.tell-outcome.new.self c.args.octets.now (parts_of c.args.pieces.now.items) (parts_of c.tell-outcome.new.pieces.items) c.tell-outcome.result c.tell-outcome.ensures.ok c.tell-outcome.ensures.used c.tell-outcome.ensures.learns;
      fault = rw c.in_default-outcome.is tt;
      kind = c.tell-outcome.ensures.fault;
      unchanged = c.tell-outcome.ensures.unchanged;
      broken = rw c.in_default-outcome.is tt;
      again = λ fault broken. absurd (c.in_default.not-Broken fault (ap (λ (s : State). s.place) c.self.view_is ∙ broken));
      held = subst (λ (s : State). length s.held.octets ≤ 16384) c.self-2.view_is c.self-2.invariant.0;
      connections = subst (λ (s : State). field_octets s.held.connections ≤ 16384) c.self-2.view_is c.self-2.invariant.1;
    }

pub returns-in-Past-clause-knows : goal.returns-in-Past-clause-knows
returns-in-Past-clause-knows c =
    let past : c.args.self.now.place ≡ Past = ap (λ (s : State). s.place) (sym c.self.view_is) ∙ c.in-Past.is in
    (learns_past c.args.self.now c.args.octets.now past, learns_past c.args.self.now (take (length c.args.octets.now) c.args.octets.now) past)
