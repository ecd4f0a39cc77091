-- `refusal_number` meets its contract.
use mathlib.Core.Path.{refl}
use Rattle.rules.specs.Answers.{number}
use Rattle.settings.proofs.answers.refusal_number.Goals as goal

pub returns-in-Ineligible : goal.returns-in-Ineligible
unfolding number
returns-in-Ineligible c = rw c.in-Ineligible.is refl

pub returns-in-Withheld : goal.returns-in-Withheld
unfolding number
returns-in-Withheld c = rw c.in-Withheld.is refl

pub returns-in-Malformed : goal.returns-in-Malformed
unfolding number
returns-in-Malformed c = rw c.in-Malformed.is refl

pub returns-in-Rejected : goal.returns-in-Rejected
unfolding number
returns-in-Rejected c = rw c.in-Rejected.is refl

pub returns-in-BadSetting : goal.returns-in-BadSetting
unfolding number
returns-in-BadSetting c = rw c.in-BadSetting.is refl

pub returns-in-BadLength : goal.returns-in-BadLength
unfolding number
returns-in-BadLength c = rw c.in-BadLength.is refl

pub returns-in-NoRoom : goal.returns-in-NoRoom
unfolding number
returns-in-NoRoom c = rw c.in-NoRoom.is refl

pub returns-in-BadOpen : goal.returns-in-BadOpen
unfolding number
returns-in-BadOpen c = rw c.in-BadOpen.is refl

pub returns-in-BadVrp : goal.returns-in-BadVrp
unfolding number
returns-in-BadVrp c = rw c.in-BadVrp.is refl

pub returns-in-BadCandidate : goal.returns-in-BadCandidate
unfolding number
returns-in-BadCandidate c = rw c.in-BadCandidate.is refl

pub returns-in-NoRoute : goal.returns-in-NoRoute
unfolding number
returns-in-NoRoute c = rw c.in-NoRoute.is refl

pub returns-in-Unreadable : goal.returns-in-Unreadable
unfolding number
returns-in-Unreadable c = rw c.in-Unreadable.is refl
