use Rattle.one_exchange.proofs.Alone.{stands}
use Rattle.one_exchange.proofs.Courses.{course_is, fault_is}
use Rattle.one_exchange.proofs.courses_once.Goals as goal

pub returns-clause-course : goal.returns-clause-course
returns-clause-course c known t stream n = course_is known stream t (stands known t n)

pub returns-clause-fault : goal.returns-clause-fault
returns-clause-fault c known t e n = fault_is known t e (stands known t n)
