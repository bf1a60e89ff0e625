-- What a sender writes for the items of a stream, one after the other, is right for them.
use Rattle.std.proofs.Common.{◌≡◌, ℕ, ◌+◌, ◌-◌, Bool, true, false, not, arith, length, length-append, ◌&&◌, ◌||◌, List, [], ◌∷◌, ◌++◌, refl, sym, ap, ◌∙◌, subst, append_assoc, append-nil}
use Rattle.std.specs.Prelude.{Option, Some, None, replicate}
use Rattle.std.specs.List.{list_any, list_all}
use Rattle.std.proofs.lemmas.List.{length-replicate}
use Rattle.std.proofs.lemmas.Bool.{or_parts, leb-true, le-leb, eqb-true}
use Rattle.std.proofs.lemmas.List.Folds.{list_any-append}
use Rattle.model.specs.Messages.{Field, Item, Request, ends_with}
use Rattle.model.specs.Messages.Item.{Block, Content}
use Rattle.model.specs.Http2.{HasHead, HasLength, MayBecome, declared_length, request_of, WellFormedHead, is_connect, body_of, AreContents, EndsWithLast}
use Rattle.model.specs.Malformed.{carried_by, are_trailers, has_length, is_within}
use Rattle.model.specs.Setup.{Setup}
use Rattle.request_rules.specs.Heads.{parts_of}
use Rattle.h1_writer.specs.Sending.{Stage, Sending, Continues, piece_of}
use Rattle.h1_writer.specs.Sending.Stage.{Whole}
use Rattle.h1_writer.proofs.Stages.{concat_more}
use Rattle.theory_requests.specs.Written.{is_content, octets_of, trailers_in, IsWritten, IsAwaited}
use Rattle.theory_requests.specs.State.{is_whole}
use Rattle.theory_requests.proofs.Texts.{part_told, part_tells, whole_told}
use Rattle.theory_requests.proofs.Fitting.{head_taken, trailers_fit, trailers_behind, not_not}
use Rattle.theory_requests.proofs.Bringing.{IsGood}
use Rattle.theory_requests.proofs.Trailing.{no_trailers, trailers_behind_contents, bare}

-- ---- items behind items

-- the octets of items behind items
pub body_append : (xs ys : List Item) → body_of (xs ++ ys) ≡ body_of xs ++ body_of ys
body_append [] ys = refl
body_append (Content octets ends ∷ xs) ys = ap (λ l. octets ++ l) (body_append xs ys) ∙ sym (append_assoc octets (body_of xs) (body_of ys))
body_append (Block fields ends ∷ xs) ys = body_append xs ys

-- contents behind octets
contents_append : (xs ys : List Item) → list_all is_content xs ≡ true → AreContents ys → AreContents (xs ++ ys)
contents_append [] ys plain are = are
contents_append (Content octets ends ∷ xs) ys plain are = contents_append xs ys plain are
contents_append (Block fields ends ∷ xs) ys plain are = let clash : false ≡ true = plain in cc

-- octets behind octets
plain_append : (xs ys : List Item) → list_all is_content xs ≡ true → list_all is_content ys ≡ true → list_all is_content (xs ++ ys) ≡ true
plain_append [] ys p q = q
plain_append (Content octets ends ∷ xs) ys p q = plain_append xs ys p q
plain_append (Block fields ends ∷ xs) ys p q = let clash : false ≡ true = p in cc

-- neither of two tests passes
none_either : (a b : Bool) → (a || b) ≡ false → (a ≡ false) × (b ≡ false)
none_either false b e = (refl, e)
none_either true b e = let clash : true ≡ false = e in cc

-- an item that ends the stream, behind some that don't
ends_append : (xs : List Item) (x : Item) → list_any ends_with xs ≡ false → ends_with x ≡ true → EndsWithLast (xs ++ x ∷ [])
ends_append [] x none ends = ends
ends_append (y ∷ []) x none ends = ((none_either (ends_with y) false none).0, ends)
ends_append (y ∷ z ∷ xs) x none ends = let parts = none_either (ends_with y) (list_any ends_with (z ∷ xs)) none in (parts.0, ends_append (z ∷ xs) x parts.1 ends)

-- the octets that one item brings
octets_are : (item : Item) → body_of (item ∷ []) ≡ octets_of item
octets_are (Content octets ends) = append-nil octets
octets_are (Block fields ends) = refl

-- ---- what is written

-- A head is written: it is whole where it ends the stream.
pub begins : (keep : Bool) (head : List Field) (ended : Bool) (text : List ℕ) (stage : Stage) → WellFormedHead head → is_connect head ≡ false → Sending keep (parts_of head) ended text [] [] stage → (stage ≡ Whole → ended ≡ true) → ((stage ≡ Whole → ⊥) → ended ≡ false) → IsWritten keep (Block head ended ∷ []) text stage
begins keep head ended text stage well_formed no_connect sending whole part = record {
  head = head;
  ended = ended;
  more = [];
  pieces = [];
  is = refl;
  well_formed = well_formed;
  no_connect = no_connect;
  sending = sending;
  body = refl;
  contents = tt;
  ends = whole;
  plain = λ p. refl;
  goes_on = λ p. ap (λ b. b || false) (part p);
}

-- An item is added: octets, or trailers; it is whole where that ends the stream.
pub adds : (keep : Bool) (items : List Item) (text : List ℕ) (stage : Stage) (item : Item) (written : List ℕ) (new : Stage) → IsWritten keep items text stage → (stage ≡ Whole → ⊥) → Continues stage written (octets_of item) (trailers_in item) new → (new ≡ Whole → ends_with item ≡ true) → ((new ≡ Whole → ⊥) → (is_content item ≡ true) × (ends_with item ≡ false)) → AreContents (item ∷ [])
    → IsWritten keep (items ++ item ∷ []) (text ++ written) new
adds keep items text stage item written new w part continues whole goes are = record {
  head = w.head;
  ended = w.ended;
  more = w.more ++ item ∷ [];
  pieces = w.pieces ++ piece_of (octets_of item);
  is = ap (λ xs. xs ++ item ∷ []) w.is;
  well_formed = w.well_formed;
  no_connect = w.no_connect;
  sending = subst (λ (fields : List Field). Sending keep (parts_of w.head) w.ended (text ++ written) (w.pieces ++ piece_of (octets_of item)) fields new) (sym (trailers_behind_contents w.more item (w.plain part)))
      (continues keep (parts_of w.head) w.ended text w.pieces (bare keep items text stage w part));
  body = concat_more w.pieces (octets_of item) ∙ ap (λ b. b ++ octets_of item) w.body ∙ ap (λ b. body_of w.more ++ b) (sym (octets_are item)) ∙ sym (body_append w.more (item ∷ []));
  contents = contents_append w.more (item ∷ []) (w.plain part) are;
  ends = λ e. ends_append items item (w.goes_on part) (whole e);
  plain = λ p. plain_append w.more (item ∷ []) (w.plain part) (ap (λ b. b && true) (goes p).0);
  goes_on = λ p. list_any-append ends_with items (item ∷ []) ∙ ap (λ b. b || list_any ends_with (item ∷ [])) (w.goes_on part) ∙ ap (λ b. b || false) (goes p).1;
}

-- the octets of a body that waits, with those of an item more
body_more : (keep : Bool) (items : List Item) (text : List ℕ) (stage : Stage) (body : List ℕ) → (w : IsAwaited keep items text stage body) → (item : Item) → body ++ octets_of item ≡ body_of (w.more ++ item ∷ [])
body_more keep items text stage body w item = ap (λ b. b ++ octets_of item) w.body_is ∙ ap (λ b. body_of w.more ++ b) (sym (octets_are item)) ∙ sym (body_append w.more (item ∷ []))

-- A head that is good is written.
pub head_written : (setup : Setup) (head : List Field) (ended : Bool) (text : List ℕ) (stage : Stage) → IsGood setup (carried_by [] false) (Block head ended) → Sending setup.keep (parts_of head) ended text [] [] stage → is_whole stage ≡ ended → IsWritten setup.keep (Block head ended ∷ []) text stage
head_written setup head ended text stage good sending whole =
    let taken = head_taken setup head ended good.0 good.1 in
    begins setup.keep head ended text stage taken.well_formed taken.no_connect sending (λ e. sym whole ∙ ap is_whole e) (λ part. sym whole ∙ part_tells stage part)

-- An item that is good is added.
pub item_written : (setup : Setup) (items : List Item) (text : List ℕ) (stage : Stage) (item : Item) (written : List ℕ) (new : Stage) → IsWritten setup.keep items text stage → is_whole stage ≡ false → IsGood setup (carried_by items false) item → Continues stage written (octets_of item) (trailers_in item) new → is_whole new ≡ ends_with item
    → IsWritten setup.keep (items ++ item ∷ []) (text ++ written) new
item_written setup items text stage (Content octets ends) written new w part good continues whole =
    adds setup.keep items text stage (Content octets ends) written new w (part_told stage part) continues (λ e. sym whole ∙ ap is_whole e) (λ p. (refl, sym whole ∙ part_tells new p)) tt
item_written setup items text stage (Block fields ends) written new w part good continues whole =
    let fits = trailers_fit setup.keep items text stage w (part_told stage part) fields ends good.1 in
    adds setup.keep items text stage (Block fields ends) written new w (part_told stage part) continues (λ e. fits.0) (λ p. absurd (let clash : true ≡ false = sym fits.0 ∙ sym whole ∙ part_tells new p in cc)) (fits.1, refl)

-- ---- what is written of a request that waits

-- A head that doesn't end its stream is written, and waits.
pub head_awaited : (setup : Setup) (head : List Field) (ended : Bool) (text : List ℕ) (stage : Stage) → IsGood setup (carried_by [] false) (Block head ended) → Sending setup.keep (parts_of head) ended text [] [] stage → is_whole stage ≡ ended → is_whole stage ≡ false → IsAwaited setup.keep (Block head ended ∷ []) text stage []
head_awaited setup head ended text stage good sending whole part =
    let taken = head_taken setup head ended good.0 good.1 in
    let goes_on : ended ≡ false = sym whole ∙ part in record {
      head = head;
      more = [];
      is = ap (λ b. Block head b ∷ []) goes_on;
      well_formed = taken.well_formed;
      no_connect = taken.no_connect;
      sending = subst (λ b. Sending setup.keep (parts_of head) b text [] [] stage) goes_on sending;
      part = part_told stage part;
      body_is = refl;
      plain = refl;
      goes_on = ap (λ b. b || false) goes_on;
    }

-- Octets that are good come behind those that wait. A block would end the stream.
pub item_gathered : (setup : Setup) (items : List Item) (text : List ℕ) (stage : Stage) (body : List ℕ) (item : Item) → IsAwaited setup.keep items text stage body → IsGood setup (carried_by items false) item → ends_with item ≡ false → IsAwaited setup.keep (items ++ item ∷ []) text stage (body ++ octets_of item)
item_gathered setup items text stage body (Block fields ends) w good goes_on = absurd (let clash : true ≡ false = sym (trailers_behind setup.keep items text stage body w fields ends good.1).0 ∙ goes_on in cc)
item_gathered setup items text stage body (Content octets ends) w good goes_on = record {
  head = w.head;
  more = w.more ++ Content octets ends ∷ [];
  is = ap (λ xs. xs ++ Content octets ends ∷ []) w.is;
  well_formed = w.well_formed;
  no_connect = w.no_connect;
  sending = w.sending;
  part = w.part;
  body_is = body_more setup.keep items text stage body w (Content octets ends);
  plain = plain_append w.more (Content octets ends ∷ []) w.plain refl;
  goes_on = list_any-append ends_with items (Content octets ends ∷ []) ∙ ap (λ b. b || (ends || false)) w.goes_on ∙ ap (λ b. b || false) goes_on;
}

-- An item that is good ends the stream: its whole body is written.
pub item_completes : (setup : Setup) (items : List Item) (text : List ℕ) (old : Stage) (body : List ℕ) (item : Item) (written : List ℕ) (stage : Stage) → IsAwaited setup.keep items text old body → IsGood setup (carried_by items false) item → ends_with item ≡ true → Continues old written (body ++ octets_of item) (trailers_in item) stage → is_whole stage ≡ true
    → IsWritten setup.keep (items ++ item ∷ []) (text ++ written) stage
item_completes setup items text old body item written stage w good ends continues whole = record {
  head = w.head;
  ended = false;
  more = w.more ++ item ∷ [];
  pieces = piece_of (body ++ octets_of item);
  is = ap (λ xs. xs ++ item ∷ []) w.is;
  well_formed = w.well_formed;
  no_connect = w.no_connect;
  sending = subst (λ (fields : List Field). Sending setup.keep (parts_of w.head) false (text ++ written) ([] ++ piece_of (body ++ octets_of item)) fields stage) (sym (trailers_behind_contents w.more item w.plain))
      (continues setup.keep (parts_of w.head) false text [] w.sending);
  body = concat_more [] (body ++ octets_of item) ∙ body_more setup.keep items text old body w item;
  contents = contents_append w.more (item ∷ []) w.plain (are_contents item good);
  ends = λ e. ends_append items item w.goes_on ends;
  plain = λ part. absurd (part (whole_told stage whole));
  goes_on = λ part. absurd (part (whole_told stage whole));
}
  where
    are_contents : (x : Item) → IsGood setup (carried_by items false) x → AreContents (x ∷ [])
    are_contents (Content octets b) g = tt
    are_contents (Block fields b) g = ((trailers_behind setup.keep items text old body w fields b g.1).1, refl)

-- Octets are pushed and then the text is ended: as one step.
pub ends_behind : (old middle new : Stage) (first second octets : List ℕ) (trailers : List Field) → Continues old first octets [] middle → Continues middle second [] trailers new → Continues old (first ++ second) octets trailers new
ends_behind old middle new first second octets trailers a b keep parts ended text pieces s =
    subst (λ x. Sending keep parts ended x (pieces ++ piece_of octets) trailers new) (append_assoc text first second)
    (subst (λ x. Sending keep parts ended ((text ++ first) ++ second) x trailers new) (append-nil (pieces ++ piece_of octets)) (b keep parts ended (text ++ first) (pieces ++ piece_of octets) (a keep parts ended text pieces s)))

-- ---- what items may still become

-- octets that make a body as long as declared
filled : (declared : Option ℕ) (body : List ℕ) → is_within declared (length body) ≡ true → (more : List ℕ) × HasLength declared (body ++ more)
filled None body e = ([], tt)
filled (Some n) body e =
    let within = leb-true (length body) n e in
    (replicate (n - length body) 0, length-append body (replicate (n - length body) 0) ∙ ap (λ m. length body + m) (length-replicate (n - length body) 0) ∙ omega (arith, within))

-- what is just as declared isn't past it
exact_within : (declared : Option ℕ) (count : ℕ) → has_length declared count ≡ true → is_within declared count ≡ true
exact_within None count e = refl
exact_within (Some n) count e = let same = eqb-true count n e in le-leb count n (omega (arith, same))

-- a request with this head, behind items whose body is within what is declared
becomes : (fields : List Field) (ends : Bool) (more : List Item) → is_within (declared_length fields) (length (body_of more)) ≡ true → (request : Request) × MayBecome (Block fields ends ∷ more) request
becomes fields ends more within =
    let rest = filled (declared_length fields) (body_of more) within in
    (request_of fields (body_of more ++ rest.0) [], record { head = fields; has_head = refl; begun = record { rest = rest.0; is = refl }; length_holds = rest.1; trailers = []; well_formed = no_trailers; is = refl })

-- Behind an item that is good the items may still become a request.
pub may_go_on : (setup : Setup) (items : List Item) (head : List Field) (item : Item) → HasHead items head → IsGood setup (carried_by items false) item → (request : Request) × MayBecome (items ++ item ∷ []) request
may_go_on setup [] head item has good = absurd has
may_go_on setup (Content octets ends ∷ items) head item has good = absurd has
may_go_on setup (Block fields ends ∷ items) head (Content octets b) has good =
    let count = length (body_of items) + length octets in
    let rules = or_parts (not (is_within (declared_length fields) count)) (b && not (has_length (declared_length fields) count)) good in
    let size : length (body_of (items ++ Content octets b ∷ [])) ≡ count = ap length (body_append items (Content octets b ∷ [])) ∙ length-append (body_of items) (octets ++ []) ∙ ap (λ xs. length (body_of items) + length xs) (append-nil octets) in
    becomes fields ends (items ++ Content octets b ∷ []) (ap (is_within (declared_length fields)) size ∙ not_not (is_within (declared_length fields) count) rules.0)
may_go_on setup (Block fields ends ∷ items) head (Block trailers b) has good =
    let rules = or_parts (not b || not (are_trailers trailers)) (not (has_length (declared_length fields) (length (body_of items)))) good.1 in
    let same : body_of (items ++ Block trailers b ∷ []) ≡ body_of items = body_append items (Block trailers b ∷ []) ∙ append-nil (body_of items) in
    becomes fields ends (items ++ Block trailers b ∷ []) (ap (λ xs. is_within (declared_length fields) (length xs)) same ∙ exact_within (declared_length fields) (length (body_of items)) (not_not (has_length (declared_length fields) (length (body_of items))) rules.1))
