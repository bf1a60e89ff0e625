-- The rules by name, and which of those that are broken is the first.
use Rattle.std.specs.Prelude.{◌≡◌, ℕ, Bool, true, List, [], ◌∷◌, take}
use Rattle.model.specs.Messages.{Field}
use Rattle.model.specs.Http2.{PseudoFieldsHold, pseudo_fields, NamesHold, ValuesHold, HasNoConnectionField, TeHolds}
use Rattle.model.specs.Http2.{MethodHolds, SchemeHolds, PathHolds, AuthorityHolds, LengthFieldHolds, HasLength}
use Rattle.model.specs.Http2.{declared_length}
use Rattle.request_rules.specs.declared.rule.Rule.{Rule}
use Rattle.request_rules.specs.declared.rule.Rule.TheVariants.{PseudoField, Name, Value, ConnectionField, Te, Method}
use Rattle.request_rules.specs.declared.rule.Rule.TheVariants.{Scheme, Path, Authority, ContentLength, Length, Memory}

-- What each rule asks of a head, which ends its stream or doesn't. Where memory is refused no head is right.
abbrev pub Asks : Rule → List Field → Bool → Type 0
Asks PseudoField head ended = PseudoFieldsHold head
Asks Name head ended = NamesHold head
Asks Value head ended = ValuesHold head
Asks ConnectionField head ended = HasNoConnectionField head
Asks Te head ended = TeHolds head
Asks Method head ended = MethodHolds head
Asks Scheme head ended = SchemeHolds head
Asks Path head ended = PathHolds head
Asks Authority head ended = AuthorityHolds head
Asks ContentLength head ended = LengthFieldHolds head
Asks Length head ended = ended ≡ true → HasLength (declared_length head) []
Asks Memory head ended = ⊥

-- the rules in the order in which they are judged
abbrev pub in_order : List Rule
in_order =
    PseudoField ∷ Name ∷ Value ∷ ConnectionField ∷ Te ∷ Method ∷ Scheme ∷ Path ∷ Authority ∷ ContentLength ∷ Length ∷ Memory ∷ []

-- the place of a rule in that order, from 0
abbrev pub place : Rule → ℕ
place PseudoField = 0
place Name = 1
place Value = 2
place ConnectionField = 3
place Te = 4
place Method = 5
place Scheme = 6
place Path = 7
place Authority = 8
place ContentLength = 9
place Length = 10
place Memory = 11

-- a head keeps all of these rules
abbrev pub Keeps : List Rule → List Field → Bool → Type 0
Keeps [] head ended = Unit {0}
Keeps (rule ∷ rules) head ended = Asks rule head ended × Keeps rules head ended

-- A head breaks this rule, and none of those before it.
pub record IsFirstBroken (rule : Rule) (head : List Field) (ended : Bool) : Type 0 where
  pub kept : Keeps (take (place rule) in_order) head ended
  pub broken : Asks rule head ended → ⊥

-- What the rules ask of trailers: no pseudo-field, and the rules of names, values and the connection. Where memory is refused no trailers
-- are right.
abbrev pub AsksOfTrailers : Rule → List Field → Type 0
AsksOfTrailers PseudoField trailers = pseudo_fields trailers ≡ []
AsksOfTrailers Name trailers = NamesHold trailers
AsksOfTrailers Value trailers = ValuesHold trailers
AsksOfTrailers ConnectionField trailers = HasNoConnectionField trailers
AsksOfTrailers Memory trailers = ⊥
AsksOfTrailers _ trailers = Unit {0}

-- trailers keep all of these rules
abbrev pub KeepsInTrailers : List Rule → List Field → Type 0
KeepsInTrailers [] trailers = Unit {0}
KeepsInTrailers (rule ∷ rules) trailers = AsksOfTrailers rule trailers × KeepsInTrailers rules trailers

-- Trailers break this rule, and none of those before it.
pub record IsFirstBrokenByTrailers (rule : Rule) (trailers : List Field) : Type 0 where
  pub kept : KeepsInTrailers (take (place rule) in_order) trailers
  pub broken : AsksOfTrailers rule trailers → ⊥
