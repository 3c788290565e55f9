use Rattle.ptu_record.specs.Judges.{positions}
use Rattle.ptu_record.proofs.Shown.{marks_show, marks_more, clear_count_is, assessment_by_marks}
use Rattle.ptu_record.proofs.laws.marks.Goals as goal

pub returns-clause-moved : goal.returns-clause-moved
returns-clause-moved c = marks_show

pub returns-clause-one_more : goal.returns-clause-one_more
returns-clause-one_more c = marks_more

pub returns-clause-clear_count : goal.returns-clause-clear_count
returns-clause-clear_count c = λ ns. clear_count_is (positions ns)

pub returns-clause-assessment : goal.returns-clause-assessment
returns-clause-assessment c = assessment_by_marks
