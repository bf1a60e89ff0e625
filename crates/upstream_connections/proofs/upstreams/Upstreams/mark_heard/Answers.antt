use Rattle.std.proofs.Common.{◌≡◌, ◌<◌, List, true, length, refl, sym, ◌∙◌, ap, subst, arith}
use Rattle.std.specs.Prelude.{suc, reverse, map}
use Rattle.theory_requests.specs.Lines.{find, without, idle_beside, answer_by}
use Rattle.upstream_connections.specs.Connections.{Connection, number_of, AreBelow, lives, marked_at, is_idle_one, Rise, among}
use Rattle.upstream_connections.specs.Keys.{key, idle_keys}
use Rattle.upstream_connections.specs.Kept.{State}
use Rattle.upstream_connections.specs.Progress.{answer_of, heard_of}
use Rattle.upstream_connections.proofs.Openings.{below_changed, below_without}
use Rattle.upstream_connections.proofs.Numbers.{others_rise}
use Rattle.upstream_connections.proofs.Idling.{idle_rise, count_beside, heard_room, idle_struck, idle_entered}
use Rattle.upstream_connections.proofs.Keys.{all_fit, fits_all, keys_rise, keys_beside_counted, keys_on, keys_off, route_on, route_off}
use Rattle.upstream_connections.proofs.upstreams.Upstreams.mark_heard.Goals as goal

pub strike-requires-clause-below : goal.strike-requires-clause-below
strike-requires-clause-below c = rw c.deref.ensures.value (fits_all c.self.inside.count c.self.invariant.few (reverse c.self.inside.connections.items) c.self.invariant.below)

pub enter-requires-clause-numbers : goal.enter-requires-clause-numbers
enter-requires-clause-numbers c =
    subst Rise (sym c.strike.ensures.numbers)
    (others_rise c.args.k c.self.inside.idle.numbers.items (idle_rise c.self.inside.connections.items c.self.inside.idle.numbers.items c.self.invariant.idle_are (suc c.self.inside.count) c.self.invariant.below))

-- the keys of the others
others_keys : (c : goal.After-enter-arg-1) → c.strike.new.idle.keys.items ≡ idle_keys (without number_of c.args.k (reverse c.self.inside.connections.items))
others_keys c = c.strike.ensures.keys ∙ ap (λ cs. idle_keys (without number_of c.args.k (reverse cs))) c.deref.ensures.value

pub enter-requires-clause-keys : goal.enter-requires-clause-keys
enter-requires-clause-keys c =
    let cs = reverse c.self.inside.connections.items in
    subst Rise (sym (others_keys c))
    (keys_rise (suc c.self.inside.count) (without number_of c.args.k cs) (below_without c.args.k (suc c.self.inside.count) cs c.self.invariant.below) (all_fit c.self.inside.count c.self.invariant.few))

-- fewer others are idle than may be
room : (c : goal.After-enter-arg-1) → c.len.result < 255
room c =
    let old = c.self.inside.connections.items in
    let changed : reverse c.mark.new.connections.items ≡ map (marked_at c.args.k (answer_by c.args.most_idle c.len.result (heard_of c.args.verdict))) (reverse old) =
    c.mark.ensures.marked ∙ ap (λ a. map (marked_at c.args.k a) (reverse old)) c.progress-progress.ensures in
    let on : is_idle_one (find number_of c.args.k (map (marked_at c.args.k (answer_by c.args.most_idle c.len.result (heard_of c.args.verdict))) (reverse old))) ≡ true =
    sym (ap (λ cs. is_idle_one (find number_of c.args.k cs)) changed) ∙ route_on (find number_of c.args.k (reverse c.mark.new.connections.items)) c.in-Some.route (sym c.in-Some.ensures.idle) in
    let fits = heard_room c.args.most_idle c.args.k c.len.result (heard_of c.args.verdict) (reverse old) on in
    let most = c.ranges.most_idle in
    omega (arith, fits, most)

-- so many are
counted : (c : goal.After-enter-arg-1) → c.len.result ≡ idle_beside c.args.k (lives (reverse c.self.inside.connections.items))
counted c =
    let old = c.self.inside.connections.items in
    c.len.ensures.value ∙ ap length c.strike.ensures.numbers ∙ count_beside old old c.self.inside.idle.numbers.items c.self.invariant.idle_are c.args.k

pub enter-requires-clause-room : goal.enter-requires-clause-room
enter-requires-clause-room c = subst (λ n. n < 255) c.len.ensures.value (room c)

pub enter-requires-clause-space : goal.enter-requires-clause-space
enter-requires-clause-space c =
    let as_many : length c.strike.new.idle.keys.items ≡ c.len.result = ap length (others_keys c) ∙ keys_beside_counted c.args.k (reverse c.self.inside.connections.items) ∙ sym (counted c) in
    subst (λ n. n < 255) (sym as_many) (room c)

pub invariant_of-self : goal.invariant_of-self
invariant_of-self c = record {
  apart = c.self.invariant.apart;
  few = c.self.invariant.few;
  below = subst (AreBelow (suc c.self.inside.count)) (sym c.mark.ensures.marked) (below_changed (marked_at c.args.k (answer_of c.progress-progress.result)) (λ x. refl) (suc c.self.inside.count) (reverse c.self.inside.connections.items) c.self.invariant.below);
  idle_are = c.enter.ensures.numbers
      ∙ ap (among c.args.k) c.strike.ensures.numbers
      ∙ idle_entered c.self.inside.connections.items c.mark.new.connections.items c.self.inside.idle.numbers.items c.self.invariant.idle_are c.args.k (suc c.self.inside.count) c.self.invariant.below (answer_of c.progress-progress.result) c.mark.ensures.marked (route_on (find number_of c.args.k (reverse c.mark.new.connections.items)) c.in-Some.route (sym c.in-Some.ensures.idle));
  keys_are = c.enter.ensures.keys
      ∙ ap (among (key c.in-Some.route c.args.k)) (c.strike.ensures.keys ∙ ap (λ cs. idle_keys (without number_of c.args.k (reverse cs))) c.deref.ensures.value)
      ∙ keys_on c.self.inside.connections.items c.mark.new.connections.items c.args.k (suc c.self.inside.count) c.self.invariant.below (answer_of c.progress-progress.result) c.mark.ensures.marked c.in-Some.route (sym c.in-Some.ensures.idle);
}

pub invariant_of-self-in_default : goal.invariant_of-self-in_default
invariant_of-self-in_default c = record {
  apart = c.self.invariant.apart;
  few = c.self.invariant.few;
  below = subst (AreBelow (suc c.self.inside.count)) (sym c.mark.ensures.marked) (below_changed (marked_at c.args.k (answer_of c.progress-progress.result)) (λ x. refl) (suc c.self.inside.count) (reverse c.self.inside.connections.items) c.self.invariant.below);
  idle_are = c.strike.ensures.numbers
      ∙ idle_struck c.self.inside.connections.items c.mark.new.connections.items c.self.inside.idle.numbers.items c.self.invariant.idle_are c.args.k (suc c.self.inside.count) c.self.invariant.below (answer_of c.progress-progress.result) c.mark.ensures.marked (route_off (find number_of c.args.k (reverse c.mark.new.connections.items)) (sym c.in_default.ensures.idle));
  keys_are = c.strike.ensures.keys
      ∙ ap (λ cs. idle_keys (without number_of c.args.k (reverse cs))) c.deref.ensures.value
      ∙ keys_off c.self.inside.connections.items c.mark.new.connections.items c.args.k (suc c.self.inside.count) c.self.invariant.below (answer_of c.progress-progress.result) c.mark.ensures.marked (sym c.in_default.ensures.idle);
}

pub returns-in-Some : goal.returns-in-Some
returns-in-Some c =
    let old = c.self.inside.connections.items in
    let counted : c.len.result ≡ idle_beside c.args.k (lives (reverse old)) = c.len.ensures.value ∙ ap length c.strike.ensures.numbers ∙ count_beside old old c.self.inside.idle.numbers.items c.self.invariant.idle_are c.args.k in
    rw (← c.self.view_is)
    (ap (λ (cs : List Connection). let s : State = record { held = reverse c.self.inside.held.items; live = cs; count = c.self.inside.count } in s)
    (c.mark.ensures.marked ∙ ap (λ a. map (marked_at c.args.k a) (reverse old)) (c.progress-progress.ensures ∙ ap (λ n. answer_by c.args.most_idle n (heard_of c.args.verdict)) counted)))

pub returns-in_default : goal.returns-in_default
returns-in_default c =
    let old = c.self.inside.connections.items in
    let counted : c.len.result ≡ idle_beside c.args.k (lives (reverse old)) = c.len.ensures.value ∙ ap length c.strike.ensures.numbers ∙ count_beside old old c.self.inside.idle.numbers.items c.self.invariant.idle_are c.args.k in
    rw (← c.self.view_is)
    (ap (λ (cs : List Connection). let s : State = record { held = reverse c.self.inside.held.items; live = cs; count = c.self.inside.count } in s)
    (c.mark.ensures.marked ∙ ap (λ a. map (marked_at c.args.k a) (reverse old)) (c.progress-progress.ensures ∙ ap (λ n. answer_by c.args.most_idle n (heard_of c.args.verdict)) counted)))
