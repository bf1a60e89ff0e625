use Rattle.window_credit.proofs.Taking as taking
use Rattle.window_credit.proofs.laws.sides_take.Goals as goal

pub returns-clause-may : goal.returns-clause-may
returns-clause-may c = λ newest sides s k count id h ahead last its within. taking.may_take newest sides s h ahead k count id last its within

pub returns-clause-kept : goal.returns-clause-kept
returns-clause-kept c = λ newest sides s k count id h ahead last its. taking.takes newest sides s h ahead k count id last its

pub returns-clause-back : goal.returns-clause-back
returns-clause-back c = λ newest sides s k count id h ahead last its. taking.goes_back newest sides s h ahead k count id last its

pub returns-clause-own : goal.returns-clause-own
returns-clause-own c = λ newest sides s k count id side h ahead last its found. taking.own_back newest sides s h ahead k count id last its side found

pub returns-clause-others : goal.returns-clause-others
returns-clause-others c = taking.others_stay

pub returns-clause-beside : goal.returns-clause-beside
returns-clause-beside c = λ newest sides s k count h ahead elsewhere. taking.takes_beside newest sides s h ahead k count elsewhere

pub returns-clause-beside_back : goal.returns-clause-beside_back
returns-clause-beside_back c = λ newest sides s k count h ahead elsewhere. taking.none_go_back newest sides s h ahead k count elsewhere
