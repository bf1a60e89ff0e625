-- What is told of octets, and what goes on offer of it.
use Rattle.std.proofs.Common.{◌≡◌, ℕ, ◌<◌, ◌≤◌, true, false, if◌then◌else◌, List, [], ◌++◌, length, Option, Some, None, refl, sym, ◌∙◌, ap, subst, append-nil}
use Rattle.model.specs.ResponseHeads.{Head}
use Rattle.model.specs.Limits.{longest_section}
use Rattle.model.specs.Deliveries.{Delivery, End}
use Rattle.theory_responses.specs.Outbox.{trailers_at, Outbox, first_head, first_end, grown}
use Rattle.h1_reader.specs.HeadSizes.{field_octets}
use Rattle.h1_reader.specs.Parts.{Part}
use Rattle.h1_reader.specs.Standing.{State as Reader, Hears, is_done}
use Rattle.h1_reader.specs.Keeps.{Learns}
use Rattle.upstream_response.specs.Telling.{interims_of, head_of, body_of, trailers_of, end_of, news_of, news_at_end}
use Rattle.upstream_response.proofs.Reading.{head_more, body_more, trailers_more}
use Rattle.upstream_response.specs.Waiting.{Answer, passing_in, limit_in, Waits, waiting, news_at_once, IsPast, IsWithin}
use Rattle.upstream_response.specs.Hearing.{Tells, IsTooLong}
use Rattle.upstream_response.specs.declared.answer.ResponsePassing.{ResponsePassing as Way}
use Rattle.upstream_response.specs.declared.answer.ResponsePassing.TheVariants as way
use Rattle.upstream_response.proofs.Pieces.{both, grown_twice}

-- ---- how many octets there are

fits : (w : Way) (a : Answer) (added parts : List Part) (most : ℕ) → IsWithin w (a.body ++ body_of added) → Waits (passing_in w) parts a → limit_in w ≡ Some most → length (body_of (parts ++ added)) ≤ most
fits (way.Whole limit) a added parts most within waits is =
    subst (λ n. length (body_of (parts ++ added)) ≤ n) (same is) (subst (λ (os : List ℕ). length os ≤ limit) (ap (λ os. os ++ body_of added) waits.1 ∙ sym (body_more parts added)) within)
  where
    same : {x y : ℕ} → Some x ≡ Some y → x ≡ y
    same e = cc
fits way.Streaming a added parts most within waits is = absurd (cc)

past : (w : Way) (a : Answer) (added : List Part) → IsPast w (a.body ++ body_of added) → (most : ℕ) × (limit_in w ≡ Some most) × ((parts : List Part) → Waits (passing_in w) parts a → most < length (body_of (parts ++ added)))
past (way.Whole limit) a added long =
    (limit, refl, λ parts waits. subst (λ (os : List ℕ). limit < length os) (ap (λ os. os ++ body_of added) waits.1 ∙ sym (body_more parts added)) long)
past way.Streaming a added long = absurd long

-- Where the body is too long, the answer fails.
pub too_long : (a : Answer) (octets : List ℕ) (added : List Part) (r : Reader) → Hears a.reader octets added r → IsPast a.way (a.body ++ body_of added) → IsTooLong a octets
too_long a octets added r hears long = let p = past a.way a added long in record { added = added; new = r; hears = hears; most = p.0; limit = p.1; long = p.2 }

-- ---- the response goes on

waits_on : (w : Way) (a n : Answer) (added parts : List Part) → n.head ≡ (waiting (passing_in w) a (head_of added) (body_of added) (trailers_of added)).head → n.body ≡ (waiting (passing_in w) a (head_of added) (body_of added) (trailers_of added)).body
    → n.trailers ≡ (waiting (passing_in w) a (head_of added) (body_of added) (trailers_of added)).trailers → Waits (passing_in w) parts a → Waits (passing_in w) (parts ++ added) n
waits_on (way.Whole limit) a n added parts head body trailers waits = (
  head ∙ ap (λ h. first_head h (head_of added)) waits.0 ∙ sym (head_more parts added),
  body ∙ ap (λ os. os ++ body_of added) waits.1 ∙ sym (body_more parts added),
  trailers ∙ ap (λ t. first_end t (trailers_of added)) waits.2 ∙ sym (trailers_more parts added),
)
waits_on way.Streaming a n added parts head body trailers waits = (head ∙ waits.0, body ∙ waits.1, trailers ∙ ap (λ t. first_end t (trailers_of added)) waits.2 ∙ sym (trailers_more parts added))

offers_on : (w : Way) (added parts : List Part) → is_done added ≡ false → news_at_once (passing_in w) added ≡ news_of (passing_in w) parts added
offers_on (way.Whole limit) added parts on =
    sym (ap (λ b. if b then (let n : Delivery = record { interims = interims_of added; head = head_of (parts ++ added); body = body_of (parts ++ added); ends = Some (trailers_at (trailers_of (parts ++ added))) } in n) else (let n : Delivery = record { interims = interims_of added; head = None; body = []; ends = None } in n)) on)
offers_on way.Streaming added parts on = sym (ap (λ b. let n : Delivery = record { interims = interims_of added; head = head_of added; body = body_of added; ends = end_of b (trailers_of (parts ++ added)) } in n) on)

-- an answer that read more, and of which nothing else changed
abbrev pub reading : Answer → Reader → Answer
reading a r = record { reader = r; way = a.way; head = a.head; body = a.body; trailers = a.trailers }

-- of such an answer, with what waits then
pub waited : (w : Way) (a n : Answer) (r : Reader) (head : Option Head) (body : List ℕ) (trailers : End) → n ≡ waiting (passing_in w) (reading a r) head body trailers
    → (n.reader ≡ r) × (n.way ≡ a.way) × (n.head ≡ (waiting (passing_in w) a head body trailers).head) × (n.body ≡ (waiting (passing_in w) a head body trailers).body) × (n.trailers ≡ (waiting (passing_in w) a head body trailers).trailers)
waited (way.Whole limit) a n r head body trailers is = (ap (λ (x : Answer). x.reader) is, ap (λ (x : Answer). x.way) is, ap (λ (x : Answer). x.head) is, ap (λ (x : Answer). x.body) is, ap (λ (x : Answer). x.trailers) is)
waited way.Streaming a n r head body trailers is = (ap (λ (x : Answer). x.reader) is, ap (λ (x : Answer). x.way) is, ap (λ (x : Answer). x.head) is, ap (λ (x : Answer). x.body) is, ap (λ (x : Answer). x.trailers) is)

pub goes_on : (a n : Answer) (octets : List ℕ) (added : List Part) (r : Reader) (box box' : Outbox) → Hears a.reader octets added r → Learns a.reader octets r → length r.held.octets ≤ longest_section → field_octets r.held.connections ≤ longest_section → IsWithin a.way (a.body ++ body_of added) → is_done added ≡ false
    → n ≡ waiting (passing_in a.way) (reading a r) (head_of added) (body_of added) (trailers_of added) → box' ≡ grown box (news_at_once (passing_in a.way) added) → Tells a octets box false n box'
goes_on a n octets added r box box' hears learns short named within on is offers =
    let w = waited a.way a n r (head_of added) (body_of added) (trailers_of added) is in
    record {
      added = added;
      hears = subst (λ s. Hears a.reader octets added s) (sym w.0) hears;
      learns = subst (λ s. Learns a.reader octets s) (sym w.0) learns;
      short = subst (λ (s : Reader). length s.held.octets ≤ longest_section) (sym w.0) short;
      few_named = subst (λ (s : Reader). field_octets s.held.connections ≤ longest_section) (sym w.0) named;
      same = w.1;
      ends = on;
      fits = λ parts most waits limit. fits a.way a added parts most within waits limit;
      waits = λ parts waits done. waits_on a.way a n added parts w.2 w.3 w.4 waits;
      offers = λ parts waits. offers ∙ ap (grown box) (offers_on a.way added parts on);
    }

-- ---- the response is whole

-- what waits, and the end
abbrev pub rest_news : Answer → Delivery
rest_news n = record { interims = []; head = n.head; body = n.body; ends = Some (trailers_at n.trailers) }

whole_news : (w : Way) (a n : Answer) (added parts : List Part) → is_done added ≡ true → Waits (passing_in w) parts a → Waits (passing_in w) (parts ++ added) n → both (news_at_once (passing_in w) added) (rest_news n) ≡ news_of (passing_in w) parts added
whole_news (way.Whole limit) a n added parts done before waits =
    ap (λ hs. let m : Delivery = record { interims = hs; head = n.head; body = n.body; ends = Some (trailers_at n.trailers) } in m) (append-nil (interims_of added))
    ∙ ap (λ h. let m : Delivery = record { interims = interims_of added; head = h; body = n.body; ends = Some (trailers_at n.trailers) } in m) waits.0
    ∙ ap (λ os. let m : Delivery = record { interims = interims_of added; head = head_of (parts ++ added); body = os; ends = Some (trailers_at n.trailers) } in m) waits.1
    ∙ ap (λ t. let m : Delivery = record { interims = interims_of added; head = head_of (parts ++ added); body = body_of (parts ++ added); ends = Some (trailers_at t) } in m) waits.2
    ∙ sym (ap (λ b. if b then (let m : Delivery = record { interims = interims_of added; head = head_of (parts ++ added); body = body_of (parts ++ added); ends = Some (trailers_at (trailers_of (parts ++ added))) } in m) else (let m : Delivery = record { interims = interims_of added; head = None; body = []; ends = None } in m)) done)
whole_news way.Streaming a n added parts done before waits =
    ap (λ hs. let m : Delivery = record { interims = hs; head = first_head (head_of added) n.head; body = body_of added ++ n.body; ends = Some (trailers_at n.trailers) } in m) (append-nil (interims_of added))
    ∙ ap (λ h. let m : Delivery = record { interims = interims_of added; head = first_head (head_of added) h; body = body_of added ++ n.body; ends = Some (trailers_at n.trailers) } in m) waits.0
    ∙ ap (λ h. let m : Delivery = record { interims = interims_of added; head = h; body = body_of added ++ n.body; ends = Some (trailers_at n.trailers) } in m) (first_none (head_of added))
    ∙ ap (λ os. let m : Delivery = record { interims = interims_of added; head = head_of added; body = body_of added ++ os; ends = Some (trailers_at n.trailers) } in m) waits.1
    ∙ ap (λ os. let m : Delivery = record { interims = interims_of added; head = head_of added; body = os; ends = Some (trailers_at n.trailers) } in m) (append-nil (body_of added))
    ∙ ap (λ t. let m : Delivery = record { interims = interims_of added; head = head_of added; body = body_of added; ends = Some (trailers_at t) } in m) waits.2
    ∙ sym (ap (λ b. let m : Delivery = record { interims = interims_of added; head = head_of added; body = body_of added; ends = end_of b (trailers_of (parts ++ added)) } in m) done)
  where
    first_none : (h : Option Head) → first_head h None ≡ h
    first_none None = refl
    first_none (Some head) = refl

pub is_whole : (a n last : Answer) (octets : List ℕ) (added : List Part) (r : Reader) (box between box' : Outbox) → Hears a.reader octets added r → Learns a.reader octets r → length r.held.octets ≤ longest_section → field_octets r.held.connections ≤ longest_section → IsWithin a.way (a.body ++ body_of added) → is_done added ≡ true
    → n ≡ waiting (passing_in a.way) (reading a r) (head_of added) (body_of added) (trailers_of added) → between ≡ grown box (news_at_once (passing_in a.way) added) → box' ≡ grown between (rest_news n) → last.reader ≡ n.reader → last.way ≡ n.way → Tells a octets box true last box'
is_whole a n last octets added r box between box' hears learns short named within done is offers more reader_same way_same =
    let w = waited a.way a n r (head_of added) (body_of added) (trailers_of added) is in
    record {
      added = added;
      hears = subst (λ s. Hears a.reader octets added s) (sym (reader_same ∙ w.0)) hears;
      learns = subst (λ s. Learns a.reader octets s) (sym (reader_same ∙ w.0)) learns;
      short = subst (λ (s : Reader). length s.held.octets ≤ longest_section) (sym (reader_same ∙ w.0)) short;
      few_named = subst (λ (s : Reader). field_octets s.held.connections ≤ longest_section) (sym (reader_same ∙ w.0)) named;
      same = way_same ∙ w.1;
      ends = done;
      fits = λ parts most waits limit. fits a.way a added parts most within waits limit;
      waits = λ parts waits on. absurd (let no : true ≡ false = on in cc);
      offers = λ parts waits. more ∙ ap (λ b. grown b (rest_news n)) offers ∙ grown_twice box (news_at_once (passing_in a.way) added) (rest_news n)
          ∙ ap (grown box) (whole_news a.way a n added parts done waits (waits_on a.way a n added parts w.2 w.3 w.4 waits));
    }

-- ---- the end of the connection

pub at_end : (a : Answer) (parts : List Part) → Waits (passing_in a.way) parts a → rest_news a ≡ news_at_end (passing_in a.way) parts
at_end a parts waits = cases a.way waits
  where
    cases : (w : Way) → Waits (passing_in w) parts a → rest_news a ≡ news_at_end (passing_in w) parts
    cases (way.Whole limit) w =
        ap (λ h. let m : Delivery = record { interims = []; head = h; body = a.body; ends = Some (trailers_at a.trailers) } in m) w.0
        ∙ ap (λ os. let m : Delivery = record { interims = []; head = head_of parts; body = os; ends = Some (trailers_at a.trailers) } in m) w.1
        ∙ ap (λ t. let m : Delivery = record { interims = []; head = head_of parts; body = body_of parts; ends = Some (trailers_at t) } in m) w.2
    cases way.Streaming w =
        ap (λ h. let m : Delivery = record { interims = []; head = h; body = a.body; ends = Some (trailers_at a.trailers) } in m) w.0
        ∙ ap (λ os. let m : Delivery = record { interims = []; head = None; body = os; ends = Some (trailers_at a.trailers) } in m) w.1
        ∙ ap (λ t. let m : Delivery = record { interims = []; head = None; body = []; ends = Some (trailers_at t) } in m) w.2
