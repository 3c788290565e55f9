use Rattle.std.proofs.Common.{rules, ◌≡◌, ◌∙◌, ap, ap₂, codes, true}
use Rattle.clap.specs.Words.{App, app_of, with_subcommand}
use Rattle.ptu_run.specs.CommandLine.{audit_line, load_line, program, with_bare}
use Rattle.ptu_run.proofs.reading.whole_line.Goals as goal

pub returns : goal.returns
returns c =
    let start : app_of c.disable_help_subcommand-program.result ≡ program = search rules in
    let first : app_of c.in_ok-line.line ≡ with_bare program (codes "replay") =
    c.in_ok-line.ensures.shape c.new-replay.ensures.local ∙ ap₂ with_subcommand start (ap (λ (a : App). a.top) c.new-replay.ensures.app) in
    let second : app_of c.in_ok-line-2.line ≡ with_bare (with_bare program (codes "replay")) (codes "show") =
    c.in_ok-line-2.ensures.shape c.new-show.ensures.local ∙ ap₂ with_subcommand first (ap (λ (a : App). a.top) c.new-show.ensures.app) in
    let third : app_of c.in_ok-line-3.line ≡ with_subcommand (with_bare (with_bare program (codes "replay")) (codes "show")) load_line.top =
    c.in_ok-line-3.ensures ∙ ap (λ a. with_subcommand a load_line.top) second in
    let fourth : app_of c.in_ok-line-4.line ≡ with_bare (with_subcommand (with_bare (with_bare program (codes "replay")) (codes "show")) load_line.top) (codes "serve") =
    c.in_ok-line-4.ensures.shape c.new-serve.ensures.local ∙ ap₂ with_subcommand third (ap (λ (a : App). a.top) c.new-serve.ensures.app) in
    let fifth : app_of c.in_ok-line-5.line
    ≡ with_bare (with_bare (with_subcommand (with_bare (with_bare program (codes "replay")) (codes "show")) load_line.top) (codes "serve")) (codes "slave") =
    c.in_ok-line-5.ensures.shape c.new-slave.ensures.local ∙ ap₂ with_subcommand fourth (ap (λ (a : App). a.top) c.new-slave.ensures.app) in
    let sixth : app_of c.in_ok-line-6.line
    ≡ with_bare (with_bare (with_bare (with_subcommand (with_bare (with_bare program (codes "replay")) (codes "show")) load_line.top) (codes "serve")) (codes "slave")) (codes "join") =
    c.in_ok-line-6.ensures.shape c.new-join.ensures.local ∙ ap₂ with_subcommand fifth (ap (λ (a : App). a.top) c.new-join.ensures.app) in
    let seventh : app_of c.in_ok-line-7.line
    ≡ with_subcommand (with_bare (with_bare (with_bare (with_subcommand (with_bare (with_bare program (codes "replay")) (codes "show")) load_line.top) (codes "serve")) (codes "slave")) (codes "join")) audit_line.top =
    c.in_ok-line-7.ensures ∙ ap (λ a. with_subcommand a audit_line.top) sixth in
    c.in_ok-line-8.ensures.shape c.new-pools.ensures.local ∙ ap₂ with_subcommand seventh (ap (λ (a : App). a.top) c.new-pools.ensures.app)
