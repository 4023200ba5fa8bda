-- What the table states about an answer, after its causes of errors, and about what was found. Laws of packets rest on
-- it.
use Rattle.std.proofs.Common.{◌≡◌, Option, None, Some, refl}

-- after four causes
pub past_four : {One Two Three Four Rest : Type 0} → One × (Two × (Three × (Four × Rest))) → Rest
past_four told =
    let past_two = told.1.1 in
    past_two.1.1

-- what was found is there
pub is_there : {A : Type 0} (found : Option A) → ¬ (found ≡ None) → (it : A) × (found ≡ Some it)
is_there None there = absurd (there refl)
is_there (Some it) there = (it, refl)
