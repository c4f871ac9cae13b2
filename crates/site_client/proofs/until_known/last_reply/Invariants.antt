use Rattle.std.proofs.Common.{◌≡◌, ℕ, List, Option}
use Rattle.site_client.specs.Repeats.{wanted_until}
use Rattle.site_client.specs.Replies.{question_of}
use Rattle.site_client.specs.inner.Repeated.{AreQuestions}
use Rattle.site_client.proofs.Repeated.{SoFar}
use Rattle.site_client.proofs.until_known.last_reply.Given as goal

-- the replies so far, and the next question
abbrev pub invariant-loop-count : goal.invariant-loop-count
invariant-loop-count g l =
    (path : Option (List ℕ)) → l.wanted ≡ wanted_until path
    → AreQuestions (question_of l.request) path l.questions
    → SoFar (question_of l.request) path (g.P.Port.traffic l.fn.port) (g.P.Port.traffic l.port)
    l._count l.last (question_of l.question) l.bytes
