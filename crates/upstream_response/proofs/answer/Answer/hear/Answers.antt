use Rattle.std.proofs.Common.{rules, ◌≡◌, ◌≤◌, true, false, ◌&&◌, ◌==◌, ◌++◌, length, refl, sym, ap, ◌∙◌, subst, inl, inr}
use Rattle.theory_responses.specs.Outbox.{grown}
use Rattle.h1_reader.specs.HeadSizes.{field_octets}
use Rattle.h1_reader.specs.Views.{parts_of}
use Rattle.response_texts.specs.declared.fault.ResponseFault.TheVariants.{Memory}
use Rattle.h1_reader.specs.Standing.{Hears, Breaks, is_done}
use Rattle.h1_reader.specs.Keeps.{Learns}
use Rattle.h1_reader.specs.Uses.{Uses}
use Rattle.h1_reader.proofs.Keepable as keeping
use Rattle.upstream_response.specs.Telling.{head_of, body_of, trailers_of}
use Rattle.upstream_response.specs.Waiting.{Answer, passing_in, waiting, news_at_once, IsPast, IsWithin}
use Rattle.upstream_response.proofs.Told as laws
use Rattle.upstream_response.proofs.answer.Answer.hear.Goals as goal

pub returns-then-is_too_long : goal.returns-then-is_too_long
returns-then-is_too_long c =
    let hears : Hears c.args.self.now.reader c.args.octets.now (parts_of c.feed.new.pieces.items) c.feed.new.self = search rules in
    let long : IsPast c.args.self.now.way (c.args.self.now.body ++ body_of (parts_of c.feed.new.pieces.items)) = search rules in
    (refl, inr (laws.too_long c.args.self.now c.args.octets.now (parts_of c.feed.new.pieces.items) c.feed.new.self hears long))

pub returns-then-not-whole : goal.returns-then-not-whole
returns-then-not-whole c =
    let hears : Hears c.args.self.now.reader c.args.octets.now (parts_of c.feed.new.pieces.items) c.feed.new.self = search rules in
    let learns : Learns c.args.self.now.reader c.args.octets.now c.feed.new.self = search rules in
    let within : IsWithin c.args.self.now.way (c.args.self.now.body ++ body_of (parts_of c.feed.new.pieces.items)) = search rules in
    let short : length c.feed.new.self.held.octets ≤ 16384 = search rules in
    let named : field_octets c.feed.new.self.held.connections ≤ 16384 = search rules in
    let on : is_done (parts_of c.feed.new.pieces.items) ≡ false = search rules in
    let waits : c.take_all.new.self ≡ waiting (passing_in c.args.self.now.way) (laws.reading c.args.self.now c.feed.new.self) (head_of (parts_of c.feed.new.pieces.items)) (body_of (parts_of c.feed.new.pieces.items)) (trailers_of (parts_of c.feed.new.pieces.items)) = search rules in
    let offers : c.take_all.new.outbox ≡ grown c.args.outbox.now (news_at_once (passing_in c.args.self.now.way) (parts_of c.feed.new.pieces.items)) = search rules in
    laws.goes_on c.args.self.now c.take_all.new.self c.args.octets.now (parts_of c.feed.new.pieces.items) c.feed.new.self c.args.outbox.now c.take_all.new.outbox hears learns short named within on waits offers

pub returns-then-kept : goal.returns-then-kept
returns-then-kept c =
    let hears : Hears c.args.self.now.reader c.args.octets.now (parts_of c.feed.new.pieces.items) c.feed.new.self = search rules in
    let learns : Learns c.args.self.now.reader c.args.octets.now c.feed.new.self = search rules in
    let within : IsWithin c.args.self.now.way (c.args.self.now.body ++ body_of (parts_of c.feed.new.pieces.items)) = search rules in
    let short : length c.feed.new.self.held.octets ≤ 16384 = search rules in
    let named : field_octets c.feed.new.self.held.connections ≤ 16384 = search rules in
    let done : is_done (parts_of c.feed.new.pieces.items) ≡ true = search rules in
    let waits : c.take_all.new.self ≡ waiting (passing_in c.args.self.now.way) (laws.reading c.args.self.now c.feed.new.self) (head_of (parts_of c.feed.new.pieces.items)) (body_of (parts_of c.feed.new.pieces.items)) (trailers_of (parts_of c.feed.new.pieces.items)) = search rules in
    let offers : c.take_all.new.outbox ≡ grown c.args.outbox.now (news_at_once (passing_in c.args.self.now.way) (parts_of c.feed.new.pieces.items)) = search rules in
    let uses : Uses c.args.self.now.reader c.args.octets.now c.in-Ok.used = search rules in
    let told : (c.in-Ok.used == length c.args.octets.now && c.feed.new.self.held.keeps) ≡ true = sym c.is_kept-kept.ensures ∙ c.if-kept.true in (
      laws.is_whole c.args.self.now c.take_all.new.self c.release.new.self c.args.octets.now (parts_of c.feed.new.pieces.items) c.feed.new.self c.args.outbox.now c.take_all.new.outbox c.release.new.outbox hears learns short named within done waits offers c.in_ok-release.ensures.offers c.in_ok-release.ensures.same.0 c.in_ok-release.ensures.same.1,
      λ text parts s k on. keeping.kept text c.args.octets.now parts (parts_of c.feed.new.pieces.items) c.in-Ok.used c.args.self.now.reader c.feed.new.self s k on hears learns uses done told,
    )

pub returns : goal.returns
returns c =
    let hears : Hears c.args.self.now.reader c.args.octets.now (parts_of c.feed.new.pieces.items) c.feed.new.self = search rules in
    let learns : Learns c.args.self.now.reader c.args.octets.now c.feed.new.self = search rules in
    let within : IsWithin c.args.self.now.way (c.args.self.now.body ++ body_of (parts_of c.feed.new.pieces.items)) = search rules in
    let short : length c.feed.new.self.held.octets ≤ 16384 = search rules in
    let named : field_octets c.feed.new.self.held.connections ≤ 16384 = search rules in
    let done : is_done (parts_of c.feed.new.pieces.items) ≡ true = search rules in
    let waits : c.take_all.new.self ≡ waiting (passing_in c.args.self.now.way) (laws.reading c.args.self.now c.feed.new.self) (head_of (parts_of c.feed.new.pieces.items)) (body_of (parts_of c.feed.new.pieces.items)) (trailers_of (parts_of c.feed.new.pieces.items)) = search rules in
    let offers : c.take_all.new.outbox ≡ grown c.args.outbox.now (news_at_once (passing_in c.args.self.now.way) (parts_of c.feed.new.pieces.items)) = search rules in
    let uses : Uses c.args.self.now.reader c.args.octets.now c.in-Ok.used = search rules in
    let told : (c.in-Ok.used == length c.args.octets.now && c.feed.new.self.held.keeps) ≡ false = sym c.is_kept-kept.ensures ∙ c.if-kept.false in (
      laws.is_whole c.args.self.now c.take_all.new.self c.release.new.self c.args.octets.now (parts_of c.feed.new.pieces.items) c.feed.new.self c.args.outbox.now c.take_all.new.outbox c.release.new.outbox hears learns short named within done waits offers c.in_ok-release.ensures.offers c.in_ok-release.ensures.same.0 c.in_ok-release.ensures.same.1,
      λ text parts s k. keeping.not_kept text c.args.octets.now parts (parts_of c.feed.new.pieces.items) c.in-Ok.used c.args.self.now.reader c.feed.new.self s k hears learns uses told,
    )

pub returns-in-Err : goal.returns-in-Err
returns-in-Err c =
    let other : c.in-Err.fault ≡ Memory → ⊥ = search rules in
    let at : c.self.inside.reader ≡ c.args.self.now.reader = ap (λ (a : Answer). a.reader) c.self.view_is in
    (refl, inl (subst (λ r. Breaks r c.args.octets.now) at (c.in-Err.ensures.fault other)))
