-- The clause on errors, from whose turn it was: it holds of each tape whose entries stood in their turn, whatever they are.
use Rattle.std.proofs.Common.{◌≡◌, Bool, true, false, not, ◌&&◌, ◌||◌, ◌⊎◌, if◌then◌else◌, List, [], ◌∷◌, ◌++◌, map, filter, reverse, Option, Some, None, refl, sym, ◌∙◌, ap, subst, append-nil, append_assoc, inl, inr}
use Rattle.std.proofs.lemmas.List.{reverse-append}
use Rattle.std.proofs.lemmas.Bool.{or_parts, or_left, or_right, and_from}
use Rattle.model.specs.Frames.{Frame, settings_frame, protocol_error, frame_size_error}
use Rattle.model.specs.Logs.{Act, Event}
use Rattle.model.specs.Logs.Act.{Open, ToUp, Close, CloseClient}
use Rattle.model.specs.Tapes.{Noted, Breach, Entry, sent, is_closed}
use Rattle.model.specs.Tapes.Breach.{WrongPreface, TooLong}
use Rattle.model.specs.Tapes.Entry.{Came, Breached, Happened, Sent, Did}
use Rattle.model.specs.Errors.{Fault}
use Rattle.model.specs.Errors.Fault.{Connection, Stream, Discarded}
use Rattle.model.specs.Known.{Known}
use Rattle.model.specs.Admission.{is_crowded}
use Rattle.model.specs.Lifetimes.{highest, is_exhausted}
use Rattle.model.specs.Courses.{course, about, fault, new_cause}
use Rattle.model.specs.ErrorClause.{rst_stream, last_goaway, newest_goaway, GoawaysComeFirst, owed_first, owed_by, owed, controls, is_passing, is_rightly_sent, is_fatal, is_calming, calls_for_end, stands_in, must_end, IsCutShort, IsFollowed, AreFollowed, ErrorsHold}
use Rattle.theory_errors.specs.Turn.{rest_of, queue_after, queue_of, MayCome, IsDue, MayPass, MayStandIn, MayClose, MayAct, MayStand, Conducted, Holds}
use Rattle.theory_errors.proofs.Goaways.{goaway_control, goaway_calms, passing_calmless, crowded_sent, cons_head, cons_tail, last_of_both}
use Rattle.model.proofs.OwedSteps.{no_goaway, did_nothing, control_owes_nothing, later_owed, nothing_besides, no_cause_of_fault}

-- the frames of notes
abbrev pub frames_in : List Noted → List Frame
frames_in noted = map (λ (n : Noted). n.frame) noted

-- At the start the gateway's settings are owed, and nothing else is.
holds_first : (known : Known) → Holds known [] (settings_frame known.setup.more_room ∷ [])
holds_first known = record {
  begins = ([], refl);
  owing = refl;
  followed = λ behind none. tt;
  cut = λ last calming on paid unpaid same. tt;
  rightly_sent = tt;
  calm = tt;
  in_time = tt;
  closed = λ shut. absurd (let f : false ≡ true = shut in cc);
}

-- ---- lists of debts

-- nothing stands in front where nothing stands
nothing_before : (xs ys : List Frame) → xs ++ ys ≡ [] → xs ≡ []
nothing_before [] ys none = refl
nothing_before (x ∷ xs) ys none = cc

-- a debt that is paid has moved from the front of the debts to the frames that were sent
pub paid : (frame : Frame) (queue frames : List Frame) → reverse queue ++ frame ∷ frames ≡ reverse (frame ∷ queue) ++ frames
paid frame queue frames = sym (ap (λ fs. fs ++ frames) (reverse-append (frame ∷ []) queue) ∙ append_assoc (reverse queue) (frame ∷ []) frames)

-- where nothing was owed, a frame that is sent stands behind all that was
sent_behind : (behind : List Frame) (queue : List Frame) → queue ≡ [] → behind ++ reverse queue ≡ behind
sent_behind behind queue none = ap (λ q. behind ++ reverse q) none ∙ append-nil behind

-- frames that are paid are those that an entry calls for before all else, with others, or some of those
split : (first rest paid unpaid : List Frame) → first ++ rest ≡ paid ++ unpaid → ((more : List Frame) × (paid ≡ first ++ more)) ⊎ ((more : List Frame) × (first ≡ paid ++ more))
split [] rest paid unpaid same = inl (paid, refl)
split (f ∷ first) rest [] unpaid same = inr (f ∷ first, refl)
split (f ∷ first) rest (g ∷ paid) unpaid same = elim (split first rest paid unpaid (cons_tail f g (first ++ rest) (paid ++ unpaid) same)) [
  | inl more ↦ inl (more.0, ap (λ fs. g ∷ fs) more.1 ∙ ap (λ h. h ∷ first ++ more.0) (sym (cons_head f g (first ++ rest) (paid ++ unpaid) same)))
  | inr more ↦ inr (more.0, ap (λ fs. f ∷ fs) more.1 ∙ ap (λ h. h ∷ paid ++ more.0) (cons_head f g (first ++ rest) (paid ++ unpaid) same))
]

-- Where it is no error of the connection, a GOAWAY may go in place of what an entry calls for, or of the rest of that.
cut_short : (found : Option Fault) (last : Frame) → is_calming last ≡ true → (first rest paid unpaid : List Frame) → is_fatal found ≡ false → first ++ rest ≡ paid ++ unpaid → IsFollowed (last ∷ reverse paid) first found
cut_short found last calming first rest paid unpaid on same = elim (split first rest paid unpaid same) [
  | inl more ↦ whole found on (last ∷ reverse more.0, ap (λ fs. last ∷ fs) (ap (λ (fs : List Frame). reverse fs) more.1 ∙ reverse-append first more.0))
  | inr more ↦ in_part found on (record { last = last; calming = calming; paid = paid; unpaid = more.0; stands = refl; of_first = more.1 })
]
  where
    whole : (found : Option Fault) → is_fatal found ≡ false → (newer : List Frame) × (last ∷ reverse paid ≡ newer ++ reverse first) → IsFollowed (last ∷ reverse paid) first found
    whole None on is = inl is
    whole (Some (Stream code)) on is = inl is
    whole (Some Discarded) on is = inl is
    whole (Some (Connection code)) on is = absurd (let no : true ≡ false = on in cc)

    in_part : (found : Option Fault) → is_fatal found ≡ false → IsCutShort (last ∷ reverse paid) first → IsFollowed (last ∷ reverse paid) first found
    in_part None on is = inr is
    in_part (Some (Stream code)) on is = inr is
    in_part (Some Discarded) on is = inr is
    in_part (Some (Connection code)) on is = absurd (let no : true ≡ false = on in cc)

-- What an entry calls for before all else stands first among what it calls for. Behind an error of the connection it is all.
follows : (found : Option Fault) (first rest behind : List Frame) → (is_fatal found ≡ true → (behind ≡ []) × ((rest ≡ []) × (reverse first ≡ first))) → IsFollowed (behind ++ reverse (first ++ rest)) first found
follows None first rest behind fatal = inl (behind ++ reverse rest, ap (λ fs. behind ++ fs) (reverse-append first rest) ∙ sym (append_assoc behind (reverse rest) (reverse first)))
follows (Some (Stream code)) first rest behind fatal = inl (behind ++ reverse rest, ap (λ fs. behind ++ fs) (reverse-append first rest) ∙ sym (append_assoc behind (reverse rest) (reverse first)))
follows (Some Discarded) first rest behind fatal = inl (behind ++ reverse rest, ap (λ fs. behind ++ fs) (reverse-append first rest) ∙ sym (append_assoc behind (reverse rest) (reverse first)))
follows (Some (Connection code)) first rest behind fatal =
    let f = fatal refl in
    ap (λ fs. fs ++ reverse (first ++ rest)) f.0 ∙ ap (λ fs. reverse (first ++ fs)) f.1.0 ∙ ap (λ fs. reverse fs) (append-nil first) ∙ f.1.1

-- ---- what comes in

-- an error of the connection calls for one GOAWAY, and nothing else
abbrev IsAlone : Known → List Entry → Entry → Option Fault → Type 0
IsAlone known t e found = (later_owed known t e found ≡ []) × (reverse (owed_first t e found) ≡ owed_first t e found)

-- What an entry calls for follows it.
follows_it : (known : Known) (t : List Entry) (e : Entry) (behind : List Frame) → (is_fatal (fault known t e) ≡ true → (behind ≡ []) × IsAlone known t e (fault known t e))
    → IsFollowed (behind ++ reverse (owed_by known t e)) (owed_first t e (fault known t e)) (fault known t e)
follows_it known t e behind fatal =
    let found = fault known t e in
    follows found (owed_first t e found) (later_owed known t e found) behind (λ so. ((fatal so).0, (fatal so).1))

-- the GOAWAY of a frame that is such an error
alone_frame : (known : Known) (t : List Entry) (noted : Noted) (found : Option Fault) → fault known t (Came noted) ≡ found → is_fatal found ≡ true → IsAlone known t (Came noted) found
alone_frame known t noted None is so = absurd (let no : false ≡ true = so in cc)
alone_frame known t noted (Some (Stream code)) is so = absurd (let no : false ≡ true = so in cc)
alone_frame known t noted (Some Discarded) is so = absurd (let no : false ≡ true = so in cc)
alone_frame known t noted (Some (Connection code)) is so =
    let c = course known noted.frame.id t in
    (nothing_besides known t (Came noted) code (ap (new_cause known noted.frame.id t (Came noted) c) is ∙ no_cause_of_fault known noted.frame.id t noted c (Connection code)) refl, refl)

-- the GOAWAY of a breach
alone_breach : (known : Known) (t : List Entry) (breach : Breach) → IsAlone known t (Breached breach) (fault known t (Breached breach))
alone_breach known t WrongPreface = (nothing_besides known t (Breached WrongPreface) protocol_error refl refl, refl)
alone_breach known t TooLong = (nothing_besides known t (Breached TooLong) frame_size_error refl refl, refl)

module _ (known : Known) (t : List Entry) (queue : List Frame) (h : Holds known t queue) (may : MayCome known t queue) where
  -- the gateway's settings were the first frame
  still_begins : (more : List Frame) → (newer : List Frame) × (reverse more ++ frames_in (sent t) ≡ newer ++ settings_frame known.setup.more_room ∷ [])
  still_begins more =
      let was : reverse queue ++ frames_in (sent t) ≡ h.begins.0 ++ settings_frame known.setup.more_room ∷ [] = h.begins.1 in
      (reverse more ++ h.begins.0, ap (λ fs. reverse more ++ fs) (ap (λ (q : List Frame). reverse q ++ frames_in (sent t)) (sym may.nothing) ∙ was) ∙ sym (append_assoc (reverse more) h.begins.0 (settings_frame known.setup.more_room ∷ [])))

  -- what the entry calls for is owed, and nothing else is
  still_owing : (more : List Frame) → reverse more ++ controls (sent t) ≡ reverse more ++ owed known t
  still_owing more = ap (λ fs. reverse more ++ fs) (ap (λ (q : List Frame). reverse q ++ controls (sent t)) (sym may.nothing) ∙ h.owing)

  -- the entries before are followed as they have to be, whatever comes
  still_followed : (behind : List Frame) → AreFollowed known behind t
  still_followed behind =
      let goes_on = or_parts (calls_for_end known t) _ may.goes_on in
      subst (λ fs. AreFollowed known fs t) (sent_behind behind queue may.nothing) (h.followed behind (λ ends. absurd (let no : false ≡ true = sym goes_on.0 ∙ ends in cc)))

  -- an entry that comes in, and is no error of the connection, may be cut short
  cut_in : (e : Entry) → (calls_for_end known (e ∷ t) ≡ false → is_fatal (fault known t e) ≡ false)
      → (last : Frame) → is_calming last ≡ true → calls_for_end known (e ∷ t) ≡ false → (paid unpaid : List Frame) → owed_by known t e ≡ paid ++ unpaid
      → IsFollowed (last ∷ reverse paid) (owed_first t e (fault known t e)) (fault known t e) × AreFollowed known (last ∷ reverse paid) t
  cut_in e none last calming on paid unpaid same =
      (cut_short (fault known t e) last calming (owed_first t e (fault known t e)) (later_owed known t e (fault known t e)) paid unpaid (none on) same, still_followed (last ∷ reverse paid))

  -- the client isn't closed
  still_open : is_closed t ≡ true → ⊥
  still_open shut = let no : false ≡ true = sym may.goes_on ∙ (h.closed shut).to_end in absurd (let x : false ≡ true = no in cc)

  -- the facts of an entry that comes in, and is no act and no frame to the client
  came : (noted : Noted) → Holds known (Came noted ∷ t) (owed_by known t (Came noted))
  came noted = record {
    begins = still_begins (owed_by known t (Came noted));
    owing = still_owing (owed_by known t (Came noted));
    followed = λ behind last.
        (follows_it known t (Came noted) behind (λ so. (last so, alone_frame known t noted (fault known t (Came noted)) refl so)), still_followed (behind ++ reverse (owed_by known t (Came noted))));
    cut = cut_in (Came noted) (λ on. on);
    rightly_sent = h.rightly_sent;
    calm = h.calm;
    in_time = (may.goes_on, h.in_time);
    closed = λ shut. absurd (still_open shut);
  }

  breached : (breach : Breach) → Holds known (Breached breach ∷ t) (owed_by known t (Breached breach))
  breached breach = record {
    begins = still_begins (owed_by known t (Breached breach));
    owing = still_owing (owed_by known t (Breached breach));
    followed = λ behind last.
        (follows_it known t (Breached breach) behind (λ so. (last refl, alone_breach known t breach)), still_followed (behind ++ reverse (owed_by known t (Breached breach))));
    cut = cut_in (Breached breach) (λ on. absurd (let no : true ≡ false = on in cc));
    rightly_sent = h.rightly_sent;
    calm = h.calm;
    in_time = (may.goes_on, h.in_time);
    closed = λ shut. absurd (still_open shut);
  }

  happened : (event : Event) → Holds known (Happened event ∷ t) (owed_by known t (Happened event))
  happened event = record {
    begins = still_begins (owed_by known t (Happened event));
    owing = still_owing (owed_by known t (Happened event));
    followed = λ behind last.
        (follows_it known t (Happened event) behind (λ so. absurd (let no : false ≡ true = so in cc)), still_followed (behind ++ reverse (owed_by known t (Happened event))));
    cut = cut_in (Happened event) (λ on. refl);
    rightly_sent = h.rightly_sent;
    calm = h.calm;
    in_time = (may.goes_on, h.in_time);
    closed = λ shut. absurd (still_open shut);
  }

-- ---- what is sent

-- A frame beside responses pays the front of what is owed.
pays : (known : Known) (t : List Entry) (queue : List Frame) (noted : Noted) → Holds known t (noted.frame ∷ queue) → is_closed t ≡ false → IsDue (calls_for_end known t) (is_crowded t) (noted.frame ∷ queue) noted → Holds known (Sent noted ∷ t) queue
pays known t queue noted h on due = record {
  begins = (h.begins.0, paid noted.frame queue (frames_in (sent t)) ∙ h.begins.1);
  owing =
      ap (λ b. reverse queue ++ map (λ (n : Noted). n.frame) (if not b then noted ∷ control_notes else control_notes)) control
      ∙ paid noted.frame queue (controls (sent t))
      ∙ h.owing
      ∙ sym (ap (λ b. if b then noted.frame ∷ controls (sent t) else reverse (owed_by known t (Sent noted)) ++ owed known t) due.owing
      ∙ ap (λ (fs : List Frame). reverse fs ++ owed known t) (control_owes_nothing known t noted control));
  followed = λ behind last. subst (λ fs. AreFollowed known fs t) (sym (moved behind)) (h.followed behind (λ ends. last (or_right (is_calming noted.frame) (calls_for_end known t) ends)));
  cut = λ last calming on_yet some rest same.
      subst (λ fs. AreFollowed known (last ∷ fs) t) (reverse-append (noted.frame ∷ []) some)
      (h.cut last calming (or_parts (is_calming noted.frame) (calls_for_end known t) on_yet).1 (noted.frame ∷ some) rest (ap (λ fs. noted.frame ∷ fs) same));
  rightly_sent = (ap (λ b. not b || is_rightly_sent t noted.frame) control, h.rightly_sent);
  calm = (
    record {
      uncrowded = λ crowded. or_right (is_passing noted) (is_calming noted.frame) (calms crowded);
      in_place = λ stands. absurd (let no : false ≡ true = sym due.owing ∙ stands in cc);
    },
    h.calm,
  );
  in_time = h.in_time;
  closed = λ shut. absurd (let no : false ≡ true = sym on ∙ shut in cc);
}
  where
    control : is_passing noted ≡ false
    control = due.control

    calms : is_crowded t ≡ true → is_calming noted.frame ≡ true
    calms crowded = by (is_calming noted.frame) (sym (ap (λ b. b && not (is_calming noted.frame)) crowded) ∙ due.calm)
      where
        by : (b : Bool) → not b ≡ false → b ≡ true
        by true same = refl
        by false same = absurd (let x : true ≡ false = same in cc)

    control_notes : List Noted
    control_notes = filter (λ (n : Noted). not (is_passing n)) (sent t)

    moved : (behind : List Frame) → (behind ++ reverse queue) ++ noted.frame ∷ [] ≡ behind ++ reverse (noted.frame ∷ queue)
    moved behind = append_assoc behind (reverse queue) (noted.frame ∷ []) ∙ ap (λ fs. behind ++ fs) (paid noted.frame queue [] ∙ append-nil (reverse (noted.frame ∷ queue)))

-- A GOAWAY stands in place of what is owed, or of octets that are given back.
stands : (known : Known) (t : List Entry) (queue : List Frame) (noted : Noted) → Holds known t queue → is_closed t ≡ false → MayStandIn (calls_for_end known t) (is_crowded t) (highest t) noted → Holds known (Sent noted ∷ t) []
stands known t queue noted h on may = record {
  begins = still_begins;
  owing =
      ap (λ b. map (λ (n : Noted). n.frame) (if not b then noted ∷ control_notes else control_notes)) control
      ∙ sym (ap (λ b. if b then noted.frame ∷ controls (sent t) else reverse (owed_by known t (Sent noted)) ++ owed known t) in_place);
  followed = λ behind last.
      subst (λ fs. AreFollowed known ((fs ++ []) ++ noted.frame ∷ []) t) (sym (last (or_left (is_calming noted.frame) (calls_for_end known t) calming)))
      (h.cut noted.frame calming may.goes_on [] queue refl);
  cut = λ last calming_too on_yet some rest same. absurd (let no : false ≡ true = sym (or_parts (is_calming noted.frame) (calls_for_end known t) on_yet).0 ∙ calming in cc);
  rightly_sent = (ap (λ b. not b || is_rightly_sent t noted.frame) control, h.rightly_sent);
  calm = (
    record {
      uncrowded = λ crowded. or_right (is_passing noted) (is_calming noted.frame) calming;
      in_place = λ so. record { crowded = may.crowded_so; goaway = may.goaway };
    },
    h.calm,
  );
  in_time = h.in_time;
  closed = λ shut. absurd (let no : false ≡ true = sym on ∙ shut in cc);
}
  where
    control : is_passing noted ≡ false
    control = goaway_control (highest t) noted may.goaway

    calming : is_calming noted.frame ≡ true
    calming = goaway_calms (highest t) noted.frame may.goaway

    in_place : stands_in known t noted ≡ true
    in_place = and_from (is_calming noted.frame) (not (calls_for_end known t)) calming (ap not may.goes_on)

    control_notes : List Noted
    control_notes = filter (λ (n : Noted). not (is_passing n)) (sent t)

    some : frames_in (sent t) ≡ [] → ⊥
    some none = crowded_sent t may.crowded_so (no_notes (sent t) none)
      where
        no_notes : (notes : List Noted) → frames_in notes ≡ [] → notes ≡ []
        no_notes [] is = refl
        no_notes (note ∷ notes) is = absurd (cc)

    still_begins : (newer : List Frame) × (noted.frame ∷ frames_in (sent t) ≡ newer ++ settings_frame known.setup.more_room ∷ [])
    still_begins =
        let was = last_of_both (reverse queue) (frames_in (sent t)) h.begins.0 (settings_frame known.setup.more_room) some h.begins.1 in
        (noted.frame ∷ was.0, ap (λ fs. noted.frame ∷ fs) was.1)

-- A part of a response, or octets given back, may call for a reset behind it.
passes : (known : Known) (t : List Entry) (queue : List Frame) (noted : Noted) → Holds known t queue → is_closed t ≡ false → MayPass known t queue noted → Holds known (Sent noted ∷ t) (owed_by known t (Sent noted))
passes known t queue noted h on may = record {
  begins =
      let was : reverse queue ++ frames_in (sent t) ≡ h.begins.0 ++ settings_frame known.setup.more_room ∷ [] = h.begins.1 in
      let now : frames_in (sent t) ≡ h.begins.0 ++ settings_frame known.setup.more_room ∷ [] = ap (λ (q : List Frame). reverse q ++ frames_in (sent t)) (sym may.nothing) ∙ was in
      (reverse more ++ noted.frame ∷ h.begins.0, ap (λ fs. reverse more ++ noted.frame ∷ fs) now ∙ sym (append_assoc (reverse more) (noted.frame ∷ h.begins.0) (settings_frame known.setup.more_room ∷ [])));
  owing =
      ap (λ b. reverse more ++ map (λ (n : Noted). n.frame) (if not b then noted ∷ control_notes else control_notes)) may.passing
      ∙ ap (λ fs. reverse more ++ fs) (ap (λ (q : List Frame). reverse q ++ controls (sent t)) (sym may.nothing) ∙ h.owing)
      ∙ sym (ap (λ b. if b && not (calls_for_end known t) then noted.frame ∷ controls (sent t) else reverse more ++ owed known t) calmless);
  followed = λ behind last. still_followed ((behind ++ reverse more) ++ noted.frame ∷ []);
  cut = λ last calming on_yet some rest same. still_followed (last ∷ reverse some ++ noted.frame ∷ []);
  rightly_sent = (or_right (not (is_passing noted)) (is_rightly_sent t noted.frame) may.rightly, h.rightly_sent);
  calm = (
    record {
      uncrowded = λ crowded. or_left (is_passing noted) (is_calming noted.frame) may.passing;
      in_place = λ so. absurd (let no : false ≡ true = sym (ap (λ b. b && not (calls_for_end known t)) calmless) ∙ so in cc);
    },
    h.calm,
  );
  in_time = h.in_time;
  closed = λ shut. absurd (let no : false ≡ true = sym on ∙ shut in cc);
}
  where
    more : List Frame
    more = owed_by known t (Sent noted)

    calmless : is_calming noted.frame ≡ false
    calmless = passing_calmless noted may.passing

    still_followed : (all : List Frame) → AreFollowed known all t
    still_followed all =
        let goes_on = or_parts (calls_for_end known t) (is_exhausted t) may.goes_on in
        subst (λ fs. AreFollowed known fs t) (sent_behind all queue may.nothing) (h.followed all (λ ends. absurd (let no : false ≡ true = sym goes_on.0 ∙ ends in cc)))

    control_notes : List Noted
    control_notes = filter (λ (n : Noted). not (is_passing n)) (sent t)

-- ---- what is done

-- Acts owe nothing; the client's close stands only where it may.
acts : (known : Known) (t : List Entry) (queue : List Frame) (act : Act) → Holds known t queue → (is_closed (Did act ∷ t) ≡ true → MayClose known t queue) → Holds known (Did act ∷ t) queue
acts known t queue act h closes = record {
  begins = h.begins;
  owing = h.owing ∙ sym (ap (λ (fs : List Frame). reverse fs ++ owed known t) (did_nothing known t act));
  followed = λ behind last.
      let none : owed_first t (Did act) None ≡ [] = no_goaway t (Did act) refl refl in
      (inl (behind ++ reverse queue, sym (ap (λ (fs : List Frame). (behind ++ reverse queue) ++ reverse fs) none ∙ append-nil (behind ++ reverse queue))), h.followed behind last);
  cut = λ last calming on_yet some rest same.
      let none : owed_first t (Did act) None ≡ [] = no_goaway t (Did act) refl refl in
      (inl (last ∷ reverse some, sym (ap (λ (fs : List Frame). (last ∷ reverse some) ++ reverse fs) none ∙ append-nil (last ∷ reverse some))), h.cut last calming on_yet some rest same);
  rightly_sent = h.rightly_sent;
  calm = h.calm;
  in_time = h.in_time;
  closed = λ shut. let may = closes shut in record { nothing = may.nothing; to_end = may.to_end };
}

-- ---- any entry in its turn

-- What holds behind a tape holds behind an entry more that stands in its turn.
pub holds_step : (known : Known) (t : List Entry) (queue : List Frame) (e : Entry) → Holds known t queue → MayStand known t queue e → Holds known (e ∷ t) (queue_after known t queue e)
holds_step known t queue (Came noted) h may = came known t queue h may.turn noted
holds_step known t queue (Breached breach) h may = breached known t queue h may.turn breach
holds_step known t queue (Happened event) h may = happened known t queue h may.turn event
holds_step known t queue (Sent noted) h may = by may.turn
  where
    by : IsDue (calls_for_end known t) (is_crowded t) queue noted ⊎ (MayPass known t queue noted ⊎ MayStandIn (calls_for_end known t) (is_crowded t) (highest t) noted) → Holds known (Sent noted ∷ t) (queue_after known t queue (Sent noted))
    by (inl due) =
        subst (λ fs. Holds known (Sent noted ∷ t) fs)
        (sym (ap (λ b. if b then [] else rest_of queue ++ owed_by known t (Sent noted)) due.owing
        ∙ ap (λ fs. rest_of queue ++ fs) (control_owes_nothing known t noted due.control)
        ∙ append-nil (rest_of queue)))
        (pays known t (rest_of queue) noted (subst (λ q. Holds known t q) due.front h) may.open_yet (subst (λ q. IsDue (calls_for_end known t) (is_crowded t) q noted) due.front due))
    by (inr (inl pass)) =
        subst (λ fs. Holds known (Sent noted ∷ t) fs)
        (sym (ap (λ b. if b && not (calls_for_end known t) then [] else rest_of queue ++ owed_by known t (Sent noted)) (passing_calmless noted pass.passing)
        ∙ ap (λ (q : List Frame). rest_of q ++ owed_by known t (Sent noted)) pass.nothing))
        (passes known t queue noted h may.open_yet pass)
    by (inr (inr stand)) =
        subst (λ fs. Holds known (Sent noted ∷ t) fs)
        (sym (ap (λ b. if b then [] else rest_of queue ++ owed_by known t (Sent noted)) (and_from (is_calming noted.frame) (not (calls_for_end known t)) (goaway_calms (highest t) noted.frame stand.goaway) (ap not stand.goes_on))))
        (stands known t queue noted h may.open_yet stand)
holds_step known t queue (Did (Open k route)) h may = acts known t queue (Open k route) h h.closed
holds_step known t queue (Did (ToUp k octets)) h may = acts known t queue (ToUp k octets) h h.closed
holds_step known t queue (Did (Close k)) h may = acts known t queue (Close k) h h.closed
holds_step known t queue (Did CloseClient) h may = acts known t queue CloseClient h (λ shut. may.turn)

-- It holds behind entries that all stood in their turn.
pub holds : (known : Known) (t : List Entry) → Conducted known t → Holds known t (queue_of known t)
holds known [] c = holds_first known
holds known (e ∷ t) c = holds_step known t (queue_of known t) e (holds known t c.0) c.1

-- ---- the GOAWAY of the last stream comes first

-- an entry that calls for nothing calls for no last GOAWAY
none_first : (found : Option Fault) (t : List Entry) (e : Entry) (rest : List Frame) → owed_first t e found ++ rest ≡ [] → last_goaway t e ≡ []
none_first None t e rest none = nothing_before (last_goaway t e) rest none
none_first (Some (Connection code)) t e rest none = cc
none_first (Some (Stream code)) t e rest none = nothing_before (last_goaway t e) (rst_stream (about t e) code ∷ []) (nothing_before (owed_first t e (Some (Stream code))) rest none)
none_first (Some Discarded) t e rest none = nothing_before (last_goaway t e) rest none

-- where nothing is owed behind an entry, it calls for no last GOAWAY
none_newest : (known : Known) (t : List Entry) → queue_of known t ≡ [] → newest_goaway t ≡ []
none_newest known [] none = refl
none_newest known (Came noted ∷ t) none = none_first (fault known t (Came noted)) t (Came noted) (later_owed known t (Came noted) (fault known t (Came noted))) none
none_newest known (Breached breach ∷ t) none = no_goaway t (Breached breach) refl refl
none_newest known (Happened event ∷ t) none = none_first (fault known t (Happened event)) t (Happened event) (later_owed known t (Happened event) (fault known t (Happened event))) none
none_newest known (Sent noted ∷ t) none = no_goaway t (Sent noted) refl refl
none_newest known (Did act ∷ t) none = no_goaway t (Did act) refl refl

-- an act in its turn stands where nothing is owed
acts_unowed : (known : Known) (t : List Entry) (queue : List Frame) (act : Act) → MayAct known t queue act → queue ≡ []
acts_unowed known t queue (Open k route) may = may
acts_unowed known t queue (ToUp k octets) may = may
acts_unowed known t queue (Close k) may = may
acts_unowed known t queue CloseClient may = may.nothing

-- So no act stands right behind the entry that opens the last stream.
first_of_all : (known : Known) (t : List Entry) → Conducted known t → GoawaysComeFirst t
first_of_all known [] c = tt
first_of_all known (Came noted ∷ t) c = first_of_all known t c.0
first_of_all known (Breached breach ∷ t) c = first_of_all known t c.0
first_of_all known (Happened event ∷ t) c = first_of_all known t c.0
first_of_all known (Sent noted ∷ t) c = first_of_all known t c.0
first_of_all known (Did act ∷ t) c = (none_newest known t (acts_unowed known t (queue_of known t) act c.1.turn), first_of_all known t c.0)

-- Where nothing is owed, and the client is closed if the connection is to end, the clause on errors holds.
pub errors_hold : (known : Known) (t : List Entry) → Conducted known t → queue_of known t ≡ [] → (must_end known t ≡ true → is_closed t ≡ true) → ErrorsHold known t
errors_hold known t c none ends =
    let h : Holds known t [] = subst (λ q. Holds known t q) none (holds known t c) in record {
      begins = h.begins;
      just_owed = h.owing;
      followed = h.followed [] (λ so. refl);
      goaway_first = first_of_all known t c;
      rightly_sent = h.rightly_sent;
      calm = h.calm;
      closed = same (is_closed t) refl (must_end known t) refl;
      in_time = h.in_time;
    }
  where
    same : (a : Bool) → is_closed t ≡ a → (b : Bool) → must_end known t ≡ b → is_closed t ≡ must_end known t
    same true p b q = let h : Holds known t [] = subst (λ q. Holds known t q) none (holds known t c) in p ∙ sym (h.closed p).to_end
    same false p true q = absurd (let no : false ≡ true = sym p ∙ ends q in cc)
    same false p false q = p ∙ sym q
