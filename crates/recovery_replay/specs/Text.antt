-- What the text of the answers stores.
use Rattle.std.specs.Prelude.{◌≡◌, Bool, true, ◌++◌, String, string_bytes}
use Rattle.recovery_script_syntax.specs.Answers.{ScriptReply, answer_line}

-- if this line could be allocated, all before it could be, and it is appended to them
abbrev pub TakesLine : {Z : Type 0} → String Z → Bool → ScriptReply → String Z → Bool → Type 0
TakesLine old_text old_whole reply new_text new_whole = new_whole ≡ true
    → (old_whole ≡ true) × (string_bytes new_text ≡ string_bytes old_text ++ answer_line reply)
