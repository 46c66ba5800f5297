use Rattle.std.proofs.Common.{◌≡◌, refl}
use Rattle.document_answers.proofs.Refusing.{refused_by, refused_silently}
use Rattle.document_answers.proofs.refused.refused_reply.Goals as goal

pub returns-in-DocumentHighlight-clause-refused : goal.returns-in-DocumentHighlight-clause-refused
returns-in-DocumentHighlight-clause-refused c = refused_silently c.args.query (λ given. given ≡ c.args.failure) c.in-DocumentHighlight.is

pub returns-in_default-clause-refused : goal.returns-in_default-clause-refused
returns-in_default-clause-refused c =
    refused_by c.args.query (λ given. given ≡ c.args.failure) c.args.failure c.in_default.not-DocumentHighlight refl
