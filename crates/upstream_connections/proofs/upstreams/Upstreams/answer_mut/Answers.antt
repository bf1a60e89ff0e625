use Rattle.std.proofs.Common.{◌≡◌, ◌∙◌, refl, ap, sym, subst, inl}
use Rattle.std.specs.Prelude.{ℕ, suc, List, Option, map, reverse, slice_set, slice_index_or, IfSome}
use Rattle.std.proofs.lemmas.List.{get_or_read}
use Rattle.upstream_response.specs.Waiting.{Answer}
use Rattle.upstream_connections.specs.Connections.{Connection, no_connection, answer_at, IsOpenAt, AreBelow, AreRising}
use Rattle.upstream_connections.proofs.Openings.{found, not_found, answer_there, below_changed}
use Rattle.upstream_connections.proofs.Idling.{idle_same}
use Rattle.upstream_connections.proofs.Keys.{keys_same}
use Rattle.upstream_connections.proofs.upstreams.Upstreams.answer_mut.Goals as goal

-- the connections with another answer at the place
behind : (cs : List Connection) → AreRising cs → (k place : ℕ) → IsOpenAt cs k place → (c : Connection) → c ≡ slice_index_or cs place no_connection → (answer : Answer)
    → reverse (slice_set cs place (record c { answer = answer })) ≡ map (answer_at k answer) (reverse cs)
behind cs rising k place is c there answer =
    ap (λ (x : Connection). let n : Connection = record x { answer = answer } in reverse (slice_set cs place n)) there ∙ answer_there cs rising k place is answer

pub invariant_of-self-lent : goal.invariant_of-self-lent
invariant_of-self-lent c = λ w.
    let cs = c.self.inside.connections.items in
    let is : IsOpenAt cs c.args.k c.in-Some.place = rw (← c.deref.ensures.value) c.in-Some.ensures.found in
    let there : c.index_mut.result.now ≡ slice_index_or cs c.in-Some.place no_connection = get_or_read cs c.in-Some.place c.index_mut.result.now is.within c.index_mut.ensures.value no_connection in
    let now = behind cs (suc c.self.inside.count, c.self.invariant.below) c.args.k c.in-Some.place is c.index_mut.result.now there w in record {
      apart = c.self.invariant.apart;
      few = c.self.invariant.few;
      below = subst (AreBelow (suc c.self.inside.count)) (sym now) (below_changed (answer_at c.args.k w) (λ x. refl) (suc c.self.inside.count) (reverse cs) c.self.invariant.below);
      idle_are = idle_same cs (slice_set cs c.in-Some.place (let n : Connection = record c.index_mut.result.now { answer = w } in n)) c.self.inside.idle.numbers.items c.self.invariant.idle_are (answer_at c.args.k w) (λ x. refl) now;
      keys_are = keys_same cs (slice_set cs c.in-Some.place (let n : Connection = record c.index_mut.result.now { answer = w } in n)) c.self.inside.idle.keys.items c.self.invariant.keys_are (answer_at c.args.k w) (λ x. refl) now;
    }

pub returns-in-Some : goal.returns-in-Some
returns-in-Some c =
    let cs = c.self.inside.connections.items in
    let is : IsOpenAt cs c.args.k c.in-Some.place = rw (← c.deref.ensures.value) c.in-Some.ensures.found in
    let there : c.index_mut.result.now ≡ slice_index_or cs c.in-Some.place no_connection = get_or_read cs c.in-Some.place c.index_mut.result.now is.within c.index_mut.ensures.value no_connection in
    let rising : AreRising cs = (suc c.self.inside.count, c.self.invariant.below) in
    rw (← c.self.view_is) (
      (λ i. inl (
        c.answer_mut.result.ghost_name,
        λ w. record {
          held = reverse c.self.inside.held.items;
          live = behind cs rising c.args.k c.in-Some.place is c.index_mut.result.now there w i;
          count = c.self.inside.count;
        },
      )),
      record {
        lends = tt;
        is = subst (λ (o : Option Connection). IfSome o (λ connection. c.answer_mut.result.now ≡ connection.answer)) (sym (found cs rising c.args.k c.in-Some.place is)) (c.answer_mut.ensures.is ∙ ap (λ (x : Connection). x.answer) there);
      },
    )

pub returns-in-None : goal.returns-in-None
returns-in-None c =
    rw (← c.self.view_is) (refl, record { lends = tt; is = not_found c.self.inside.connections.items c.args.k (rw (← c.deref.ensures.value) c.in-None.ensures.absent) })
