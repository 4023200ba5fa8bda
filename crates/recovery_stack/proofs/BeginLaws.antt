-- The result of `begin` with valid settings.
use Rattle.std.proofs.Common.{◌≡◌, ℕ, false, List, Option, Some, None, length, nat_lt, is_some, refl, subst, sym, arith, inl, ◌∙◌}
use Rattle.std.proofs.lemmas.Bool.Decides.{nat_tests}
use Rattle.std.specs.Prelude.{if◌then◌else◌}
use Rattle.recovery_engine.specs.declared.kept.Form.{Form}
use Rattle.recovery_stack.specs.Codes.{cid}
use Rattle.recovery_stack.specs.Made.{Made, NewOr, new_fault}
use Rattle.recovery_stack.specs.Settings.{settings_fault}
use Rattle.recovery_stack.specs.declared.codes.Address.{Address}
use Rattle.recovery_engine.specs.declared.numbers.TheConstants.{NEW_CID_TOO_LONG}
use Rattle.recovery_stack.specs.declared.settings.Settings.{Settings}
use Rattle.recovery_stack.specs.declared.stack.Stack.{Stack}

-- an ID that was accepted is the given one, and not too long
taken : (bytes id : List ℕ) → Some id ≡ cid bytes → (nat_lt 20 (length bytes) ≡ false) × (id ≡ bytes)
taken bytes id is = grind (arith, nat_tests, is)

pub new_made : (form : Form) (settings : Settings) (given : Address) (bytes id : List ℕ) (now fault : ℕ)
    (held new : Option Stack) → false ≡ is_some held → Some id ≡ cid bytes → fault ≡ settings_fault settings → fault ≡ 0
    → Made form settings given id now new → NewOr form 0 settings given bytes now held new
new_made form settings given bytes id now fault (Some stack) new free is wrong one made = absurd (cc)
new_made form settings given bytes id now fault None new free is wrong one made =
    let t = taken bytes id is in
    let none : settings_fault settings ≡ 0 = sym wrong ∙ one in
    let nothing : new_fault settings bytes ≡ 0 =
    subst (λ test. (if test then NEW_CID_TOO_LONG else settings_fault settings) ≡ 0) (sym t.0) none in
    let same : Made form settings given bytes now new = subst (λ it. Made form settings given it now new) t.1 made in
    inl (nothing, refl, same)
