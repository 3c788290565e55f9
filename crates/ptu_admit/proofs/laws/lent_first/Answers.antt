use Rattle.std.proofs.Common.{◌++◌, ◌∷◌, refl}
use Rattle.ptu_history.specs.Moments.{book_moment}
use Rattle.ptu_admit.proofs.Lending.{are_at, at_back, at_front, stand_for}
use Rattle.ptu_admit.proofs.laws.lent_first.Goals as goal

pub returns-clause-first : goal.returns-clause-first
returns-clause-first _ = λ opening before after t book history s.
    stand_for opening (book_moment history) (t ∷ before ++ after) book history
    (at_front opening (book_moment history) before t after book.capacity book.total history (are_at opening (before ++ t ∷ after) book history s)) refl s.moment

pub returns-clause-back : goal.returns-clause-back
returns-clause-back _ = λ opening before after t book history s.
    stand_for opening (book_moment history) (before ++ t ∷ after) book history
    (at_back opening (book_moment history) before t after book.capacity book.total history (are_at opening (t ∷ before ++ after) book history s)) refl s.moment
