-- Parts of a step, one behind another, to where the connection stands in the end.
use Rattle.std.proofs.Common.{◌≡◌, ℕ, ◌==◌, if◌then◌else◌, Bool, true, false, List, [], ◌∷◌, ◌++◌, append-nil, Option, Some, refl, sym, ◌∙◌, ap, subst, append_assoc}
use Rattle.model.specs.Frames.{spell}
use Rattle.model.specs.Logs.{Act, Output}
use Rattle.model.specs.Setup.{Setup}
use Rattle.model.specs.Tapes.{Entry, acts, happened, put, CanBeSpelled, ActsFollow}
use Rattle.model.specs.Tapes.Entry.{Came, Breached, Happened, Sent, Did}
use Rattle.theory.specs.Moves.{Move}
use Rattle.theory.specs.State.{tape_of, State}
use Rattle.refinement.specs.View.{View, Pending}
use Rattle.refinement.specs.Performing.{put_all}
use Rattle.refinement.specs.Bringing.{AreOwn, PerformsOwn, Brings, Course, OwnSegment}
use Rattle.refinement.proofs.Performing.{tape_behind, put_behind}
use Rattle.refinement.proofs.Bringing.{own_behind}
use Rattle.event_handlers.specs.Inputs.{Input, inputs_in, events_in}
use Rattle.event_handlers.specs.Comings.{StandsAt, FollowsFrom, ComesFrom, OnlyToClient, Comes, Follows}

-- ---- what entries of the gateway's own are

-- nothing comes in with them
pub own_inputs : (t : List Entry) → AreOwn t → inputs_in t ≡ []
own_inputs [] own = refl
own_inputs (Sent noted ∷ t) own = own_inputs t own.1
own_inputs (Did act ∷ t) own = own_inputs t own
own_inputs (Came noted ∷ t) own = absurd own
own_inputs (Breached breach ∷ t) own = absurd own
own_inputs (Happened event ∷ t) own = absurd own

-- they can be spelled, behind what can
pub own_spelled : (later earlier : List Entry) → AreOwn later → CanBeSpelled earlier → CanBeSpelled (later ++ earlier)
own_spelled [] earlier own before = before
own_spelled (Sent noted ∷ later) earlier own before = (own.0, own_spelled later earlier own.1 before)
own_spelled (Did act ∷ later) earlier own before = own_spelled later earlier own before
own_spelled (Came noted ∷ later) earlier own before = absurd own
own_spelled (Breached breach ∷ later) earlier own before = absurd own
own_spelled (Happened event ∷ later) earlier own before = absurd own

-- acts follow events behind them as before
pub own_follow : (later earlier : List Entry) → AreOwn later → ActsFollow earlier → ActsFollow (later ++ earlier)
own_follow [] earlier own before = before
own_follow (Sent noted ∷ later) earlier own before = own_follow later earlier own.1 before
own_follow (Did act ∷ later) earlier own before = own_follow later earlier own before
own_follow (Came noted ∷ later) earlier own before = absurd own
own_follow (Breached breach ∷ later) earlier own before = absurd own
own_follow (Happened event ∷ later) earlier own before = absurd own

-- ---- entries behind others

pub inputs_behind : (later earlier : List Entry) → inputs_in (later ++ earlier) ≡ inputs_in later ++ inputs_in earlier
inputs_behind [] earlier = refl
inputs_behind (Came noted ∷ later) earlier = ap (λ (xs : List Input). Input.OfFrame noted.frame ∷ xs) (inputs_behind later earlier)
inputs_behind (Breached breach ∷ later) earlier = ap (λ (xs : List Input). Input.OfBreach breach ∷ xs) (inputs_behind later earlier)
inputs_behind (Happened event ∷ later) earlier = ap (λ (xs : List Input). Input.OfEvent event ∷ xs) (inputs_behind later earlier)
inputs_behind (Sent noted ∷ later) earlier = inputs_behind later earlier
inputs_behind (Did act ∷ later) earlier = inputs_behind later earlier

pub spelled_behind : (later earlier : List Entry) → CanBeSpelled later → CanBeSpelled earlier → CanBeSpelled (later ++ earlier)
spelled_behind [] earlier a b = b
spelled_behind (Came noted ∷ later) earlier a b = spelled_behind later earlier a b
spelled_behind (Breached breach ∷ later) earlier a b = spelled_behind later earlier a b
spelled_behind (Happened event ∷ later) earlier a b = spelled_behind later earlier a b
spelled_behind (Sent noted ∷ later) earlier a b = (a.0, spelled_behind later earlier a.1 b)
spelled_behind (Did act ∷ later) earlier a b = spelled_behind later earlier a b

acts_behind : (later earlier : List Entry) → acts (later ++ earlier) ≡ acts later ++ acts earlier
acts_behind [] earlier = refl
acts_behind (Came noted ∷ later) earlier = acts_behind later earlier
acts_behind (Breached breach ∷ later) earlier = acts_behind later earlier
acts_behind (Happened event ∷ later) earlier = acts_behind later earlier
acts_behind (Sent noted ∷ later) earlier = acts_behind later earlier
acts_behind (Did act ∷ later) earlier = ap (λ (xs : List Act). act ∷ xs) (acts_behind later earlier)

-- where nothing is done before an event, nothing is behind frames that were sent
pub follow_behind : (later earlier : List Entry) → ActsFollow later → acts earlier ≡ [] → ActsFollow earlier → ActsFollow (later ++ earlier)
follow_behind [] earlier a none b = b
follow_behind (Came noted ∷ later) earlier a none b = follow_behind later earlier a none b
follow_behind (Breached breach ∷ later) earlier a none b = follow_behind later earlier a none b
follow_behind (Happened event ∷ later) earlier a none b = acts_behind later earlier ∙ ap (λ (xs : List Act). xs ++ acts earlier) a ∙ none
follow_behind (Sent noted ∷ later) earlier a none b = follow_behind later earlier a none b
follow_behind (Did act ∷ later) earlier a none b = follow_behind later earlier a none b

-- entries with which no event came leave that so
pub follow_later : (later earlier : List Entry) → events_in (inputs_in later) ≡ [] → ActsFollow earlier → ActsFollow (later ++ earlier)
follow_later [] earlier none b = b
follow_later (Came noted ∷ later) earlier none b = follow_later later earlier none b
follow_later (Breached breach ∷ later) earlier none b = follow_later later earlier none b
follow_later (Happened event ∷ later) earlier none b = absurd (let no : event ∷ events_in (inputs_in later) ≡ [] = none in cc)
follow_later (Sent noted ∷ later) earlier none b = follow_later later earlier none b
follow_later (Did act ∷ later) earlier none b = follow_later later earlier none b

-- where no event came, acts follow none
pub follow_none : (t : List Entry) → happened t ≡ [] → ActsFollow t
follow_none [] none = tt
follow_none (Came noted ∷ t) none = follow_none t none
follow_none (Breached breach ∷ t) none = follow_none t none
follow_none (Happened event ∷ t) none = absurd (let no : event ∷ happened t ≡ [] = none in cc)
follow_none (Sent noted ∷ t) none = follow_none t none
follow_none (Did act ∷ t) none = follow_none t none

-- ---- what is put out

no_act_put : (outputs : List Output) (act : Act) → OnlyToClient (put outputs (Output.Does act)) → ⊥
no_act_put [] act only = only
no_act_put (Output.ToClient octets ∷ outputs) act only = only
no_act_put (Output.Does (Act.ToUp j before) ∷ outputs) (Act.ToUp k octets) only = by (j == k) only
  where
    by : (b : Bool) → OnlyToClient (if b then Output.Does (Act.ToUp j (before ++ octets)) ∷ outputs else Output.Does (Act.ToUp k octets) ∷ Output.Does (Act.ToUp j before) ∷ outputs) → ⊥
    by true only = only
    by false only = only
no_act_put (Output.Does (Act.ToUp j before) ∷ outputs) (Act.Open k route) only = only
no_act_put (Output.Does (Act.ToUp j before) ∷ outputs) (Act.Close k) only = only
no_act_put (Output.Does (Act.ToUp j before) ∷ outputs) Act.CloseClient only = only
no_act_put (Output.Does (Act.Open j route) ∷ outputs) act only = only
no_act_put (Output.Does (Act.Close j) ∷ outputs) act only = only
no_act_put (Output.Does Act.CloseClient ∷ outputs) act only = only

only_before : (outputs : List Output) (octets : List ℕ) → OnlyToClient (put outputs (Output.ToClient octets)) → OnlyToClient outputs
only_before [] octets only = tt
only_before (Output.ToClient before ∷ outputs) octets only = only
only_before (Output.Does (Act.Open k route) ∷ outputs) octets only = only
only_before (Output.Does (Act.ToUp k up) ∷ outputs) octets only = only
only_before (Output.Does (Act.Close k) ∷ outputs) octets only = only
only_before (Output.Does Act.CloseClient ∷ outputs) octets only = only

pub no_acts : (t : List Entry) → OnlyToClient (put_all [] t) → acts t ≡ []
no_acts [] only = refl
no_acts (Came noted ∷ t) only = no_acts t only
no_acts (Breached breach ∷ t) only = no_acts t only
no_acts (Happened event ∷ t) only = no_acts t only
no_acts (Sent noted ∷ t) only = no_acts t (only_before (put_all [] t) (spell noted.frame) only)
no_acts (Did act ∷ t) only = absurd (no_act_put (put_all [] t) act only)

-- ---- parts

module _ (setup : Setup) where
  stands_from : (later earlier run : List Move) (pending : Pending) (now : Option View) → StandsAt setup (later ++ (earlier ++ run)) pending now → StandsAt setup ((later ++ earlier) ++ run) pending now
  stands_from later earlier run pending now = subst (λ (all : List Move). StandsAt setup all pending now) (sym (append_assoc later earlier run))

  puts_from : (later earlier : List Move) (o p q : List Output) → p ≡ put_all o (tape_of earlier) → q ≡ put_all p (tape_of later) → q ≡ put_all o (tape_of (later ++ earlier))
  puts_from later earlier o p q first second =
      second ∙ ap (λ (x : List Output). put_all x (tape_of later)) first ∙ sym (put_behind o (tape_of later) (tape_of earlier)) ∙ ap (λ (t : List Entry). put_all o t) (sym (tape_behind later earlier))

  -- a part that performs follows
  pub follows_own : (a b : View) (x y : Pending) (o p : List Output) → PerformsOwn setup a x o b y p → FollowsFrom setup a x o y (Some b) p
  follows_own a b x y o p performs run s leads =
      let one = performs run s leads in
      record { moves = one.segment.moves; stands = (one.segment.state, one.segment.leads); puts = one.segment.puts; own = one.are_own }

  -- one part, and then another
  pub then_follows : (run : List Move) (s : State) (b : View) (y z : Pending) (o p q : List Output) (now : Option View) → OwnSegment setup run s o b y p → FollowsFrom setup b y p z now q → Follows setup run o z now q
  then_follows run s b y z o p q now one later =
      let two = later (one.segment.moves ++ run) one.segment.state one.segment.leads in
      record {
        moves = two.moves ++ one.segment.moves;
        stands = stands_from two.moves one.segment.moves run z now two.stands;
        puts = puts_from two.moves one.segment.moves o p q one.segment.puts two.puts;
        own = subst AreOwn (sym (tape_behind two.moves one.segment.moves)) (own_behind (tape_of two.moves) (tape_of one.segment.moves) two.own one.are_own);
      }

  pub follows_then : (a b : View) (x y z : Pending) (o p q : List Output) (now : Option View) → PerformsOwn setup a x o b y p → FollowsFrom setup b y p z now q → FollowsFrom setup a x o z now q
  follows_then a b x y z o p q now first later run s leads = then_follows run s b y z o p q now (first run s leads) later

  -- what an entry that comes in is
  abbrev pub IsInput : Entry → Input → Type 0
  IsInput (Came noted) input = input ≡ Input.OfFrame noted.frame
  IsInput (Breached breach) input = input ≡ Input.OfBreach breach
  IsInput (Happened event) input = input ≡ Input.OfEvent event
  IsInput (Sent noted) input = ⊥
  IsInput (Did act) input = ⊥

  one_input : (entry : Entry) (input : Input) → IsInput entry input → inputs_in (entry ∷ []) ≡ input ∷ []
  one_input (Came noted) input is = ap (λ (x : Input). x ∷ []) (sym is)
  one_input (Breached breach) input is = ap (λ (x : Input). x ∷ []) (sym is)
  one_input (Happened event) input is = ap (λ (x : Input). x ∷ []) (sym is)
  one_input (Sent noted) input is = absurd is
  one_input (Did act) input is = absurd is

  one_spelled : (entry : Entry) (input : Input) → IsInput entry input → CanBeSpelled (entry ∷ [])
  one_spelled (Came noted) input is = tt
  one_spelled (Breached breach) input is = tt
  one_spelled (Happened event) input is = tt
  one_spelled (Sent noted) input is = absurd is
  one_spelled (Did act) input is = absurd is

  one_follows : (entry : Entry) (input : Input) → IsInput entry input → ActsFollow (entry ∷ [])
  one_follows (Came noted) input is = tt
  one_follows (Breached breach) input is = tt
  one_follows (Happened event) input is = refl
  one_follows (Sent noted) input is = absurd is
  one_follows (Did act) input is = absurd is

  -- entries that begin with one that comes in, behind which all is the gateway's own
  pub inputs_so : (t own : List Entry) (entry : Entry) (input : Input) → IsInput entry input → t ≡ own ++ entry ∷ [] → AreOwn own → inputs_in t ≡ input ∷ []
  inputs_so t own entry input is begins are = ap inputs_in begins ∙ inputs_behind own (entry ∷ []) ∙ ap (λ (xs : List Input). xs ++ inputs_in (entry ∷ [])) (own_inputs own are) ∙ one_input entry input is

  pub spelled_so : (t own : List Entry) (entry : Entry) (input : Input) → IsInput entry input → t ≡ own ++ entry ∷ [] → AreOwn own → CanBeSpelled t
  spelled_so t own entry input is begins are = subst CanBeSpelled (sym begins) (own_spelled own (entry ∷ []) are (one_spelled entry input is))

  pub follow_so : (t own : List Entry) (entry : Entry) (input : Input) → IsInput entry input → t ≡ own ++ entry ∷ [] → AreOwn own → ActsFollow t
  follow_so t own entry input is begins are = subst ActsFollow (sym begins) (own_follow own (entry ∷ []) are (one_follows entry input is))

  -- what came in, and then what follows
  pub course_then : (run : List Move) (s : State) (b : View) (y z : Pending) (o p q : List Output) (entry : Entry) (input : Input) (now : Option View) → IsInput entry input → Course setup run s o entry b y p → FollowsFrom setup b y p z now q → Comes setup run o (input ∷ []) z now q
  course_then run s b y z o p q entry input now is one later =
      let two = later (one.segment.moves ++ run) one.segment.state one.segment.leads in
      let tape : tape_of (two.moves ++ one.segment.moves) ≡ (tape_of two.moves ++ one.own) ++ entry ∷ [] =
      tape_behind two.moves one.segment.moves ∙ ap (λ (t : List Entry). tape_of two.moves ++ t) one.begins ∙ sym (append_assoc (tape_of two.moves) one.own (entry ∷ [])) in
      let own : AreOwn (tape_of two.moves ++ one.own) = own_behind (tape_of two.moves) one.own two.own one.are_own in
      record {
        moves = two.moves ++ one.segment.moves;
        stands = stands_from two.moves one.segment.moves run z now two.stands;
        puts = puts_from two.moves one.segment.moves o p q one.segment.puts two.puts;
        came = inputs_so (tape_of (two.moves ++ one.segment.moves)) (tape_of two.moves ++ one.own) entry input is tape own;
        spelled = spelled_so (tape_of (two.moves ++ one.segment.moves)) (tape_of two.moves ++ one.own) entry input is tape own;
        acts_follow = follow_so (tape_of (two.moves ++ one.segment.moves)) (tape_of two.moves ++ one.own) entry input is tape own;
      }

  pub comes_then : (a b : View) (x y z : Pending) (o p q : List Output) (entry : Entry) (input : Input) (now : Option View) → IsInput entry input → Brings setup a x o entry b y p → FollowsFrom setup b y p z now q → ComesFrom setup a x o (input ∷ []) z now q
  comes_then a b x y z o p q entry input now is first later run s leads = course_then run s b y z o p q entry input now is (first run s leads) later

  -- what comes in, and then what comes in behind it, no event
  pub comes_both : (a b : View) (x y z : Pending) (o p q : List Output) (first last : List Input) (now : Option View) → events_in last ≡ [] → ComesFrom setup a x o first y (Some b) p → ComesFrom setup b y p last z now q → ComesFrom setup a x o (last ++ first) z now q
  comes_both a b x y z o p q first last now none one two run s leads =
      let before = one run s leads in
      let behind = two (before.moves ++ run) before.stands.0 before.stands.1 in
      let tape : tape_of (behind.moves ++ before.moves) ≡ tape_of behind.moves ++ tape_of before.moves = tape_behind behind.moves before.moves in
      record {
        moves = behind.moves ++ before.moves;
        stands = stands_from behind.moves before.moves run z now behind.stands;
        puts = puts_from behind.moves before.moves o p q before.puts behind.puts;
        came = ap inputs_in tape ∙ inputs_behind (tape_of behind.moves) (tape_of before.moves) ∙ ap (λ (xs : List Input). xs ++ inputs_in (tape_of before.moves)) behind.came ∙ ap (λ (xs : List Input). last ++ xs) before.came;
        spelled = subst CanBeSpelled (sym tape) (spelled_behind (tape_of behind.moves) (tape_of before.moves) behind.spelled before.spelled);
        acts_follow = subst ActsFollow (sym tape) (follow_later (tape_of behind.moves) (tape_of before.moves) (ap events_in behind.came ∙ none) before.acts_follow);
      }

  -- nothing comes in
  pub comes_none : (a : View) (x : Pending) (o : List Output) → ComesFrom setup a x o [] x (Some a) o
  comes_none a x o run s leads = record { moves = []; stands = (s, leads); puts = refl; came = refl; spelled = tt; acts_follow = tt }

  -- the gateway's settings go out first, and then something comes in
  pub greets_then : (a b : View) (x y z : Pending) (p q : List Output) (inputs : List Input) (now : Option View) → PerformsOwn setup a x [] b y p → OnlyToClient p → ComesFrom setup b y p inputs z now q → ComesFrom setup a x [] inputs z now q
  greets_then a b x y z p q inputs now first only later run s leads =
      let one = first run s leads in
      let two = later (one.segment.moves ++ run) one.segment.state one.segment.leads in
      let tape : tape_of (two.moves ++ one.segment.moves) ≡ tape_of two.moves ++ tape_of one.segment.moves = tape_behind two.moves one.segment.moves in
      record {
        moves = two.moves ++ one.segment.moves;
        stands = stands_from two.moves one.segment.moves run z now two.stands;
        puts = puts_from two.moves one.segment.moves [] p q one.segment.puts two.puts;
        came = ap inputs_in tape ∙ inputs_behind (tape_of two.moves) (tape_of one.segment.moves) ∙ ap (λ (xs : List Input). inputs_in (tape_of two.moves) ++ xs) (own_inputs (tape_of one.segment.moves) one.are_own) ∙ append-nil (inputs_in (tape_of two.moves)) ∙ two.came;
        spelled = subst CanBeSpelled (sym tape) (spelled_behind (tape_of two.moves) (tape_of one.segment.moves) two.spelled (own_can (tape_of one.segment.moves) one.are_own));
        acts_follow = subst ActsFollow (sym tape) (follow_behind (tape_of two.moves) (tape_of one.segment.moves) two.acts_follow (no_acts (tape_of one.segment.moves) (subst OnlyToClient one.segment.puts only)) (own_acts (tape_of one.segment.moves) one.are_own));
      }
    where
      own_can : (t : List Entry) → AreOwn t → CanBeSpelled t
      own_can t own = subst CanBeSpelled (append-nil t) (own_spelled t [] own tt)

      own_acts : (t : List Entry) → AreOwn t → ActsFollow t
      own_acts t own = subst ActsFollow (append-nil t) (own_follow t [] own tt)
