-- Where a text ends, for who reads several texts one behind the other.
--   lines_of bytes       the lines of a text without their line feeds; bytes behind the last line feed are a line too
--   EndsOnce bytes       the last line is `end`, and no other line is
--   NoneBegins text fits no text of a value that fits begins the text of another
--   TextsEnd             the laws for the texts of jobs and of certificates
use Rattle.std.specs.Prelude.{◌≡◌, ◌≢◌, ◌==◌, ℕ, List, [], ◌∷◌, ◌++◌, All, codes, if◌then◌else◌}
use Rattle.bmp_text.specs.Words.{words_with}
use Rattle.bmp_cert.specs.declared.job.Job.{Job}
use Rattle.bmp_cert.specs.declared.cert.Cert.{Cert}
use Rattle.bmp_cert.specs.JobGrammar.{job_text, IsWellFormedJob}
use Rattle.bmp_cert.specs.CertGrammar.{cert_text, IsWellFormed}

unfoldable pub lines_of : List ℕ → List (List ℕ)
lines_of [] = []
lines_of (b ∷ bs) = if b == 10 then [] ∷ lines_of bs else words_with b (lines_of bs)

pub record EndsOnce (bytes : List ℕ) : Type 0 where
  pub before : List (List ℕ)
  pub lines : lines_of bytes ≡ before ++ codes "end" ∷ []
  pub others : All (λ line. line ≢ codes "end") before

abbrev pub NoneBegins : {A : Type 0} → (A → List ℕ) → (A → Type 0) → Type 0
NoneBegins {A} text fits = (x y : A) → fits x → fits y → (rest : List ℕ) → text y ≡ text x ++ rest → rest ≡ []

pub record TextsEnd : Type 0 where
  pub one_job : NoneBegins job_text IsWellFormedJob
  pub one_cert : NoneBegins cert_text IsWellFormed
  pub job_ends : (j : Job) → IsWellFormedJob j → EndsOnce (job_text j)
  pub cert_ends : (c : Cert) → IsWellFormed c → EndsOnce (cert_text c)
