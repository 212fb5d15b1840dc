-- Private contracts alone cite this file: one result behind a text.
use Rattle.std.specs.Prelude.{List, ◌++◌, ℕ, ◌≤◌, ℤ, length}
use Rattle.text.specs.declared.Text.{Text}
use Rattle.text.specs.Buffer.{Puts}
use Rattle.results.specs.Results.{ResultAs, number_line, longest_result}

-- one result with its number, put behind the text so far
pub record ResultPrinted (bytes text : List ℕ) (number told : ℕ) (answer work answer' work' : List ℤ) (before after : Text) : Type 0 where
  pub result : List ℕ
  pub means : ResultAs bytes text told answer work result answer' work'
  pub puts : Puts (number_line number ++ result) before after
  pub short : length (number_line number ++ result) ≤ longest_result
