-- What stays of what is kept behind a part that went, and where its stream is over.
use Rattle.std.proofs.Common.{◌≡◌, ℕ, zero, suc, ◌<◌, Bool, true, false, ◌==◌, if◌then◌else◌, List, [], ◌∷◌, length, Option, Some, None, refl, sym, ◌∙◌, ap, subst, inl, inr, ℤ, pos, arith}
use Rattle.std.specs.Prelude.{◌-ℤ◌}
use Rattle.std.proofs.lemmas.Bool.{cases_Bool, eqb-true, eq-eqb, ne_eqb}
use Rattle.model.specs.Frames.{spell, no_error}
use Rattle.model.specs.Logs.{Output}
use Rattle.theory_errors.specs.Summary.{Stream as Conducted}
use Rattle.theory_errors.specs.Rows.{find as find_row, slot_of}
use Rattle.theory_errors.specs.Rows.Slot.{Over}
use Rattle.theory_responses.specs.Outbox.{Part}
use Rattle.theory_responses.specs.Outbox.Part.{Trailing}
use Rattle.theory_responses.specs.State.{Kept, find, change, without, gone}
use Rattle.header_blocks.specs.Encoding.{Encoding}
use Rattle.streams.specs.Asked.{has, is_active}
use Rattle.streams.specs.Sending.{head_sent, data_sent, is_served}
use Rattle.effects.specs.Sent.{data_frame}
use Rattle.effects.specs.Blocks.{frames_of, filled_before, block_frames}
use Rattle.refinement.specs.View.{View, waiting_for}
use Rattle.upstream_connections.specs.Connections.{lives}
use Rattle.refinement.specs.Rest.{NoneCut, NoneDone}
use Rattle.event_handlers.specs.Closings.{IsAbout}
use Rattle.event_handlers.specs.Forgetting.{forgotten}
use Rattle.event_handlers.specs.flushing.Changes.{part_gone, ended, reset_gone, octets_of_frames, IsPartSent}
use Rattle.event_handlers.proofs.Closings.{about_changed, about_then, none_stays, served_same}
use Rattle.event_handlers.proofs.flushing.Rows.{has_same}

-- ---- resets that are owed

-- where a part of a stream went, that is cut which was
cut_changed : (P : Bool → Type 0) (id other : ℕ) (part : Part) (ks : List Kept) → ((k : Kept) → find other ks ≡ Some k → P k.cut) → (k : Kept) → find other (change id (gone part) ks) ≡ Some k → P k.cut
cut_changed P id other part [] all k found = all k found
cut_changed P id other part (x ∷ ks) all k found = by (x.id == id) found (cut_changed P id other part ks)
  where
    here : (b : Bool) → (x.id == other) ≡ b → (if b then Some (gone part x) else find other ks) ≡ Some k → P k.cut
    here true same is = (let found_it : gone part x ≡ k = cc in subst (λ (y : Kept). P y.cut) found_it (all x (ap (λ b. if b then Some x else find other ks) same)))
    here false apart is = all k (ap (λ b. if b then Some x else find other ks) apart ∙ is)

    there : (b : Bool) → (x.id == other) ≡ b → (((k : Kept) → find other ks ≡ Some k → P k.cut) → (k : Kept) → find other (change id (gone part) ks) ≡ Some k → P k.cut) → (if b then Some x else find other (change id (gone part) ks)) ≡ Some k → P k.cut
    there true same more is = all k (ap (λ b. if b then Some x else find other ks) same ∙ is)
    there false apart more is = more (λ y at. all y (ap (λ b. if b then Some x else find other ks) apart ∙ at)) k is

    by : (b : Bool) → find other (if b then gone part x ∷ ks else x ∷ change id (gone part) ks) ≡ Some k → (((k : Kept) → find other ks ≡ Some k → P k.cut) → (k : Kept) → find other (change id (gone part) ks) ≡ Some k → P k.cut) → P k.cut
    by true is more = here (x.id == other) refl is
    by false is more = there (x.id == other) refl more is

-- what is found where one is gone was there
found_before : (id other : ℕ) (ks : List Kept) (k : Kept) → find other (without id ks) ≡ Some k → (other == id) ≡ false → find other ks ≡ Some k
found_before id other [] k found apart = found
found_before id other (x ∷ ks) k found apart = by (x.id == id) refl found (found_before id other ks k)
  where
    keep : (b : Bool) → (if b then Some x else find other (without id ks)) ≡ Some k → (find other (without id ks) ≡ Some k → (other == id) ≡ false → find other ks ≡ Some k) → (if b then Some x else find other ks) ≡ Some k
    keep true is more = is
    keep false is more = more is apart

    by : (b : Bool) → (x.id == id) ≡ b → find other (if b then without id ks else x ∷ without id ks) ≡ Some k → (find other (without id ks) ≡ Some k → (other == id) ≡ false → find other ks ≡ Some k) → find other (x ∷ ks) ≡ Some k
    by true same is more =
        let elsewhere : (x.id == other) ≡ false = ap (λ n. n == other) (eqb-true x.id id same) ∙ ne_eqb id other (λ e. let clash : true ≡ false = sym (eq-eqb other id (sym e)) ∙ apart in cc) in
        ap (λ b. if b then Some x else find other ks) elsewhere ∙ more is apart
    by false same is more = keep (x.id == other) is more

-- none is found that is gone
none_found : (id : ℕ) (ks : List Kept) (k : Kept) → find id (without id ks) ≡ Some k → ⊥
none_found id [] k found = (let clash : ◌≡◌ {A = Option Kept} None (Some k) = found in cc)
none_found id (x ∷ ks) k found = by (x.id == id) refl found (none_found id ks k)
  where
    by : (b : Bool) → (x.id == id) ≡ b → find id (if b then without id ks else x ∷ without id ks) ≡ Some k → (find id (without id ks) ≡ Some k → ⊥) → ⊥
    by true same is more = more is
    by false apart is more = more (sym (ap (λ b. if b then Some x else find id (without id ks)) apart) ∙ is)

-- ---- what stays

-- No reset is owed then either, the same streams were opened, the same connections are open, and more is untaken.
pub record Stays (u v : View) : Type 0 where
  pub none_cut : NoneCut u.offers → NoneCut v.offers
  pub opened : (id : ℕ) → has v.inbound.rows id ≡ has u.inbound.rows id
  pub live : v.upstreams.live ≡ u.upstreams.live
  pub more : u.untaken < v.untaken

part_stays : (u : View) (id : ℕ) (part : Part) (k : Conducted) (window : ℤ) (encoding : Encoding) (count : ℕ) → 0 < count → Stays u (part_gone id part k window encoding count u)
part_stays u id part k window encoding count some = record {
  none_cut = λ none other stream found. cut_changed (λ b. b ≡ false) id other part u.offers.kept (none other) stream found;
  opened = λ other. has_same id (slot_of k) u.inbound.rows other;
  live = refl;
  more = omega (arith, some);
}

ended_stays : (u v : View) (id : ℕ) → Stays u v → Stays u (ended id v)
ended_stays u v id s = by (is_active v.inbound.rows id)
  where
    none : NoneCut u.offers → (other : ℕ) (stream : Kept) → find other (without id v.offers.kept) ≡ Some stream → stream.cut ≡ false
    none none_cut other stream found = elim (cases_Bool (other == id)) [
      | inl same ↦ absurd (none_found id v.offers.kept stream (sym (ap (λ n. find n (without id v.offers.kept)) (eqb-true other id same)) ∙ found))
      | inr apart ↦ s.none_cut none_cut other stream (found_before id other v.offers.kept stream found apart)
    ]

    by : (b : Bool) → Stays u (forgotten id (if b then reset_gone id no_error v else v))
    by true = record { none_cut = none; opened = λ other. has_same id (Over true) v.inbound.rows other ∙ s.opened other; live = s.live; more = (let more = s.more in omega (arith, more)) }
    by false = record { none_cut = none; opened = s.opened; live = s.live; more = s.more }

-- a block is some octets
block_octets : (filled kind flags stream : ℕ) (octets : List ℕ) → 0 < octets_of_frames (frames_of filled kind flags stream octets)
block_octets zero kind flags stream octets = omega arith
block_octets (suc filled) kind flags stream octets = omega arith

-- Behind a part that went, and where the stream is over if that ended it.
pub sent_stays : (u : View) (outputs : List Output) (id : ℕ) (ends : Bool) (v : View) (put_out : List Output) → IsPartSent u outputs id ends v put_out → Stays u (if ends then ended id v else v)
sent_stays u outputs id ends v put_out sent = by ends (first sent)
  where
    first : IsPartSent u outputs id ends v put_out → Stays u v
    first (inl (is_final, h)) = subst (Stays u) (sym h.kept) (part_stays u id h.part (head_sent is_final ends (find_row u.inbound.rows id)) u.inbound.window (record u.encoding { table = h.table; limits = None }) (octets_of_frames (block_frames id ends h.block)) (block_octets (filled_before h.block) 1 (if ends then 1 else 0) id h.block))
    first (inr (inr (last, h))) = subst (Stays u) (sym h.kept) (part_stays u id (Trailing h.trailers) (head_sent false true (find_row u.inbound.rows id)) u.inbound.window (record u.encoding { table = h.table; limits = None }) (octets_of_frames (block_frames id true h.block)) (block_octets (filled_before h.block) 1 1 id h.block))
    first (inr (inl h)) = subst (Stays u) (sym h.kept) (part_stays u id h.part (data_sent (length h.octets) ends (find_row u.inbound.rows id)) (u.inbound.window -ℤ pos (length h.octets)) u.encoding (length (spell (data_frame id ends h.octets))) (omega arith))

    by : (b : Bool) → Stays u v → Stays u (if b then ended id v else v)
    by true stays = ended_stays u v id stays
    by false stays = stays

-- ---- which streams are served

ended_about : (id : ℕ) (v : View) → IsAbout id v (ended id v)
ended_about id v = by (is_active v.inbound.rows id)
  where
    by : (b : Bool) → IsAbout id v (forgotten id (if b then reset_gone id no_error v else v))
    by true = about_changed id (Over true) v (forgotten id (reset_gone id no_error v)) refl refl
    by false = record { served = λ other apart. refl; live = refl }

-- A part that goes, and the end of its stream, are about that alone.
pub sent_about : (u : View) (outputs : List Output) (id : ℕ) (ends : Bool) (v : View) (put_out : List Output) → IsPartSent u outputs id ends v put_out → IsAbout id u (ended id v)
sent_about u outputs id ends v put_out sent = about_then id u v (ended id v) (first sent) (ended_about id v)
  where
    first : IsPartSent u outputs id ends v put_out → IsAbout id u v
    first (inl (is_final, h)) = about_changed id (slot_of (head_sent is_final ends (find_row u.inbound.rows id))) u v (ap (λ (w : View). w.inbound.rows) h.kept) (ap (λ (w : View). lives w.upstreams.live) h.kept)
    first (inr (inr (last, h))) = about_changed id (slot_of (head_sent false true (find_row u.inbound.rows id))) u v (ap (λ (w : View). w.inbound.rows) h.kept) (ap (λ (w : View). lives w.upstreams.live) h.kept)
    first (inr (inl h)) = about_changed id (slot_of (data_sent (length h.octets) ends (find_row u.inbound.rows id))) u v (ap (λ (w : View). w.inbound.rows) h.kept) (ap (λ (w : View). lives w.upstreams.live) h.kept)

-- A part that goes changes nothing of what waits.
pub sent_waits : (u : View) (outputs : List Output) (id : ℕ) (ends : Bool) (v : View) (put_out : List Output) → IsPartSent u outputs id ends v put_out → waiting_for id v ≡ waiting_for id u
sent_waits u outputs id ends v put_out (inl (is_final, h)) = ap (λ (w : View). waiting_for id w) h.kept
sent_waits u outputs id ends v put_out (inr (inr (last, h))) = ap (λ (w : View). waiting_for id w) h.kept
sent_waits u outputs id ends v put_out (inr (inl h)) = ap (λ (w : View). waiting_for id w) h.kept

-- Behind one that doesn't end its stream no connection is done with, if none was before.
pub sent_none_done : (u : View) (outputs : List Output) (id : ℕ) (v : View) (put_out : List Output) → is_active u.inbound.rows id ≡ true → IsPartSent u outputs id false v put_out → NoneDone u → NoneDone v
sent_none_done u outputs id v put_out active (inl (is_final, h)) none =
    none_stays u v
    (λ other. ap (λ (w : View). is_served w.inbound.rows other) h.kept ∙ served_same id (head_sent is_final false (find_row u.inbound.rows id)) u.inbound.rows active refl refl other)
    (ap (λ (w : View). lives w.upstreams.live) h.kept) none
sent_none_done u outputs id v put_out active (inr (inr (last, h))) none = absurd (let clash : false ≡ true = last in cc)
sent_none_done u outputs id v put_out active (inr (inl h)) none =
    none_stays u v
    (λ other. ap (λ (w : View). is_served w.inbound.rows other) h.kept ∙ served_same id (data_sent (length h.octets) false (find_row u.inbound.rows id)) u.inbound.rows active refl refl other)
    (ap (λ (w : View). lives w.upstreams.live) h.kept) none
